-- A put leaves each link of a view meant by its stamps.
use Rattle.std.proofs.Common.{◌≡◌, ◌∙◌, ◌==◌, ◌⊎◌, inl, inr, ℕ, Bool, true, false, if◌then◌else◌, Option, Some, refl, sym, ap, subst}
use Rattle.fbc_kinds.specs.declared.edits.Edit.TheVariants.{PutCell}
use Rattle.fbc_kinds.specs.declared.pages.Cell.{Cell}
use Rattle.fbc_kinds.specs.declared.pages.Flag.{Flag}
use Rattle.fbc_kinds.specs.declared.pages.Flag.TheVariants as flag
use Rattle.fbc_kinds.specs.declared.pages.Page.{Page}
use Rattle.fbc_kinds.specs.Reach.{LinksTo, NamesBack, ReachesCell}
use Rattle.fbc_kinds.specs.View.{View, cell_at, cell_in}
use Rattle.fbc_kinds.proofs.Tests.{differ_from_test, same_from_test, test_of_same}
use Rattle.fbc_version_edits.specs.Forms.{IsCut, IsFirst, IsMove, IsOwnAgain}
use Rattle.fbc_page_edits.specs.Edited.{with_page}
use Rattle.fbc_page_edits.specs.Facing.{IsLinked}
use Rattle.fbc_legal.specs.Guards.{GuardOfEdit}
use Rattle.fbc_legal.specs.Scene.{Scene, born_at, meant_at, newest_at}
use Rattle.fbc_legal.specs.Stamps.{Stamps, born_after, born_in_newest, is_same_flag, meant_after, meant_by, newest_stamps, stamp_after, stamped, takes_link}
use Rattle.fbc_closed_cuts.specs.Owed.{IsSeenKept, IsSeenNewest}
use Rattle.fbc_version_edits.specs.Differences.{IsPlace}
use Rattle.fbc_version_edits.specs.Puts.{IsPutIn}
use Rattle.fbc_version_edits.proofs.NoLinkForms.{first_unlinked, move_unlinked, no_link_cut, no_link_first, no_link_move, no_link_own, own_unlinked}
use Rattle.fbc_version_edits.proofs.NoNewLinks.{names_none, no_more_links, other_links, own_links}
use Rattle.fbc_version_edits.proofs.OneCell.{IsOneCell, here_or_not, is_new, one_cell_put}
use Rattle.fbc_origins.specs.Owed.{IsInOrder}
use Rattle.fbc_origins.proofs.LinkTaken.{IsTaken, taken}
use Rattle.fbc_origins.proofs.Meant.{AreMeant, meant-newest, meant-seen}
use Rattle.fbc_origins.proofs.PutPages.{IsPutPage, put-page}
use Rattle.fbc_origins.proofs.ViewsNext.{IsEditedView}

-- A version takes no link where it can't.
pub not_taken : (old new : Cell) → ¬ IsTaken old new → takes_link old new ≡ false
not_taken old new apart = go (takes_link old new) refl where
  go : (b : Bool) → takes_link old new ≡ b → b ≡ false
  go false is = refl
  go true is = absurd (apart (taken old new is))

pub one_flag : (f : Flag) → is_same_flag f f ≡ true
one_flag flag.Empty = refl
one_flag flag.Primary = refl
one_flag flag.Deletion = refl
one_flag flag.Back = refl

module _ (at : Scene) (order : IsInOrder at) (owner page cell : ℕ) (content : Cell) (made_page : Page) (g : GuardOfEdit at owner page (PutCell cell content))
    (seen : View) (stamps : ℕ → Stamps) (after : View) (later : ℕ → Stamps) (v : IsEditedView at owner page (PutCell cell content) made_page seen stamps after later)
    (put : IsPutIn at.shape seen page cell content made_page) where
  abbrev next : View
  next = with_page seen page made_page

  abbrev news : Stamps
  news = newest_stamps at.world at.stamps page

  abbrev restamped : Stamps
  restamped = stamped (stamp_after at.past) (born_in_newest at.world at.stamps) (newest_at at page) (PutCell cell content) news

  pub before : AreMeant seen stamps
  before = meant-seen at order.original.meant owner page seen stamps v.sees

  -- Other cells have the stamps that they had.
  pub record HasSame (q c : ℕ) : Type 0 where
    pub born : (later q).born c ≡ (stamps q).born c
    pub meant : (later q).meant c ≡ (stamps q).meant c

  on_page : (c : ℕ) → (c == cell) ≡ false → HasSame page c
  on_page c other = record {
    born = ap (λ (s : Stamps). s.born c) v.now ∙ rw other refl ∙ ap (λ (s : Stamps). s.born c) (sym v.sees.edited_page.stamps);
    meant = ap (λ (s : Stamps). s.meant c) v.now ∙ rw other refl ∙ ap (λ (s : Stamps). s.meant c) (sym v.sees.edited_page.stamps);
  }

  pub elsewhere : (q c : ℕ) → ¬ IsPlace page cell q c → HasSame q c
  elsewhere q c differ = go (q == page) refl (c == cell) refl where
    go : (a : Bool) → (q == page) ≡ a → (b : Bool) → (c == cell) ≡ b → HasSame q c
    go false apart b is = record { born = ap (λ (s : Stamps). s.born c) (v.others q (differ_from_test q page apart)); meant = ap (λ (s : Stamps). s.meant c) (v.others q (differ_from_test q page apart)) }
    go true same true also = absurd (differ (same_from_test q page same, same_from_test c cell also))
    go true same false other = subst (λ p. HasSame p c) (sym (same_from_test q page same)) (on_page c other)

  -- The cell itself.
  pub here_meant : (old : Cell) → cell_at (newest_at at) page cell ≡ Some old → (later page).meant cell ≡ (if takes_link old content then news.meant cell else meant_by (born_in_newest at.world at.stamps) content)
  here_meant old stands = ap (λ (s : Stamps). s.meant cell) v.now ∙ rw (test_of_same cell cell refl) (ap (meant_after (born_in_newest at.world at.stamps) (news.meant cell) content) stands)

  pub here_born : (old : Cell) → cell_at (newest_at at) page cell ≡ Some old → (later page).born cell ≡ (if takes_link old content then news.born cell else stamp_after at.past)
  here_born old stands = ap (λ (s : Stamps). s.born cell) v.now ∙ rw (test_of_same cell cell refl) (ap (born_after (stamp_after at.past) (news.born cell) content) stands)

  -- A link that was there, between other cells.
  pub kept_link : (relation from_page from_cell back_page back_cell : ℕ) (version : Cell) → LinksTo seen relation from_page from_cell version back_page back_cell → ¬ IsPlace page cell from_page from_cell → ¬ IsPlace page cell back_page back_cell
      → (later from_page).meant from_cell ≡ (later back_page).born back_cell
  kept_link relation from_page from_cell back_page back_cell version link from to =
      (elsewhere from_page from_cell from).meant ∙ before relation from_page from_cell back_page back_cell version link ∙ sym (elsewhere back_page back_cell to).born

  pub not_to : ¬ IsLinked seen page cell → (relation from_page from_cell back_page back_cell : ℕ) (version : Cell) → LinksTo seen relation from_page from_cell version back_page back_cell → ¬ IsPlace page cell back_page back_cell
  not_to none relation from_page from_cell back_page back_cell version link place =
      none (subst (λ c. IsLinked seen page c) place.1 (subst (λ p. IsLinked seen p back_cell) place.0 (record { relation = relation; from_page = from_page; from_cell = from_cell; version = version; links = link })))

  -- What a new link means.
  pub names_it : (old : Cell) → cell_at (newest_at at) page cell ≡ Some old → ¬ IsTaken old content → (back_page back_cell : ℕ) → NamesBack content back_page back_cell → (later page).meant cell ≡ born_at at back_page back_cell
  names_it old stands apart back_page back_cell names =
      here_meant old stands ∙ rw (not_taken old content apart, names.some, names.page_is, names.cell_is) refl

  -- What holds at the cell holds at a place that is it.
  pub at_place : (from_page from_cell back_page back_cell : ℕ) → IsPlace page cell from_page from_cell → (later page).meant cell ≡ (later back_page).born back_cell → (later from_page).meant from_cell ≡ (later back_page).born back_cell
  at_place from_page from_cell back_page back_cell place is = ap (λ p. (later p).meant from_cell) place.0 ∙ ap (λ c. (later page).meant c) place.1 ∙ is

  -- A cell of one stamp in the view and in the newest pages means the same by its link.
  pub one_meaning : (q c : ℕ) (x y : Cell) → cell_at seen q c ≡ Some x → cell_at (newest_at at) q c ≡ Some y → (stamps q).born c ≡ born_at at q c → (stamps q).meant c ≡ meant_at at q c
  one_meaning q c x y stands also one = go (v.sees.each q) where
    go : IsSeenNewest at q (seen q) (stamps q) ⊎ IsSeenKept at q (seen q) (stamps q) → (stamps q).meant c ≡ meant_at at q c
    go (inl shown) = ap (λ (s : Stamps). s.meant c) shown.stamps
    go (inr shown) =
        ap (λ (s : Stamps). s.meant c) shown.stamps
        ∙ (order.original.versions q c x y (ap (λ (o : Option Page). cell_in o c) (sym shown.page) ∙ stands) also (ap (λ (s : Stamps). s.born c) (sym shown.stamps) ∙ one)).1

  abbrev pub p : IsPutPage at owner page cell content
  p = put-page at owner page cell content g

  -- Where a top of the page leads, as the newest pages have it.
  pub top_link : (old : Cell) → cell_at (newest_at at) page cell ≡ Some old → ReachesCell (newest_at at) p.data_page.relation page cell → (back_page back_cell : ℕ) → NamesBack old back_page back_cell
      → LinksTo (newest_at at) p.data_page.relation page cell old back_page back_cell
  top_link old stands reached back_page back_cell names = record { reached = reached; stands = stands; names = names }

  -- The links of the view with the page.
  abbrev pub StayMeant : Type 0
  StayMeant = AreMeant next later

  pub first_meant : (form : IsFirst seen page cell content) → StayMeant
  first_meant form relation from_page from_cell back_page back_cell version link = go (here_or_not page cell from_page from_cell) where
    one : IsOneCell seen next page cell form.old content
    one = one_cell_put put form.stands

    was : LinksTo seen relation from_page from_cell version back_page back_cell
    was = no_more_links put.sound one (no_link_first put.sound page cell content form) (λ r bp bc reached names. names_none content bp bc form.alone names) relation from_page from_cell back_page back_cell version link

    go : IsPlace page cell from_page from_cell ⊎ ¬ IsPlace page cell from_page from_cell → (later from_page).meant from_cell ≡ (later back_page).born back_cell
    go (inl place) = absurd (names_none content back_page back_cell form.alone (subst (λ (w : Cell). NamesBack w back_page back_cell) (is_new one from_page from_cell version place link.stands) link.names))
    go (inr differ) = kept_link relation from_page from_cell back_page back_cell version was differ (not_to (first_unlinked put.sound page cell content form) relation from_page from_cell back_page back_cell version was)

  -- Where an old top and its link stand as in the newest pages, both mean the same.
  pub agree : (old : Cell) → cell_at (newest_at at) page cell ≡ Some old → ReachesCell (newest_at at) p.data_page.relation page cell → (relation back_page back_cell : ℕ) → LinksTo seen relation page cell old back_page back_cell
      → born_at at back_page back_cell ≡ (stamps back_page).born back_cell
  agree old stands reached relation back_page back_cell link =
      sym (meant-newest at order.original.meant p.data_page.relation page cell back_page back_cell old (top_link old stands reached back_page back_cell link.names))
      ∙ sym (ap (λ (s : Stamps). s.meant cell) v.sees.edited_page.stamps)
      ∙ before relation page cell back_page back_cell old link

  pub own_meant : (form : IsOwnAgain seen page cell content) → cell_at (newest_at at) page cell ≡ Some form.old → ReachesCell (newest_at at) p.data_page.relation page cell → StayMeant
  own_meant form stands reached relation from_page from_cell back_page back_cell version link = go (here_or_not page cell from_page from_cell) where
    one : IsOneCell seen next page cell form.old content
    one = one_cell_put put form.stands

    unlinked_here : ¬ IsLinked seen page cell
    unlinked_here = own_unlinked put.sound page cell content form

    go : IsPlace page cell from_page from_cell ⊎ ¬ IsPlace page cell from_page from_cell → (later from_page).meant from_cell ≡ (later back_page).born back_cell
    go (inr differ) =
        let was : LinksTo seen relation from_page from_cell version back_page back_cell = other_links put.sound one (no_link_own put.sound page cell content form) relation from_page from_cell back_page back_cell version differ link in
        kept_link relation from_page from_cell back_page back_cell version was differ (not_to unlinked_here relation from_page from_cell back_page back_cell version was)
    go (inl place) =
        let here : LinksTo next relation page cell version back_page back_cell =
        subst (λ c. LinksTo next relation page c version back_page back_cell) place.1 (subst (λ q. LinksTo next relation q from_cell version back_page back_cell) place.0 link) in
        let was : LinksTo seen relation page cell form.old back_page back_cell = own_links put.sound one (no_link_own put.sound page cell content form) relation back_page back_cell version here in
        let names : NamesBack content back_page back_cell = subst (λ (w : Cell). NamesBack w back_page back_cell) (is_new one from_page from_cell version place link.stands) link.names in
        at_place from_page from_cell back_page back_cell place
        (names_it form.old stands (λ t. clash t names) back_page back_cell names
        ∙ agree form.old stands reached relation back_page back_cell was
        ∙ sym (elsewhere back_page back_cell (not_to unlinked_here relation page cell back_page back_cell form.old was)).born)
      where
        clash : IsTaken form.old content → NamesBack content back_page back_cell → ⊥
        clash t names = names_none content back_page back_cell t.alone names

  pub move_meant : (form : IsMove seen page cell content) → (not_reached : (relation : ℕ) → ¬ ReachesCell next relation page cell) → StayMeant
  move_meant form not_reached relation from_page from_cell back_page back_cell version link = go (here_or_not page cell from_page from_cell) where
    one : IsOneCell seen next page cell form.old content
    one = one_cell_put put form.stands

    go : IsPlace page cell from_page from_cell ⊎ ¬ IsPlace page cell from_page from_cell → (later from_page).meant from_cell ≡ (later back_page).born back_cell
    go (inl place) = absurd (not_reached relation (subst (λ c. ReachesCell next relation page c) place.1 (subst (λ q. ReachesCell next relation q from_cell) place.0 link.reached)))
    go (inr differ) =
        let was : LinksTo seen relation from_page from_cell version back_page back_cell = other_links put.sound one (no_link_move put.sound page cell content form) relation from_page from_cell back_page back_cell version differ link in
        kept_link relation from_page from_cell back_page back_cell version was differ (not_to (move_unlinked put.sound page cell content form) relation from_page from_cell back_page back_cell version was)

  pub cut_meant : (form : IsCut seen page cell content) → cell_at (newest_at at) page cell ≡ Some form.old → StayMeant
  cut_meant form stands relation from_page from_cell back_page back_cell version link = go (here_or_not page cell from_page from_cell) where
    one : IsOneCell seen next page cell form.old content
    one = one_cell_put put form.stands

    alone : content.back_page ≡ 0
    alone = ap (λ (w : Cell). w.back_page) form.same

    takes : takes_link form.old content ≡ true
    takes =
        rw (ap (λ (w : Cell). w.flag) form.same, ap (λ (w : Cell). w.number) form.same, alone, one_flag form.old.flag, test_of_same form.old.number form.old.number refl, form.linked) refl

    born_stays : (q c : ℕ) → IsPlace page cell q c ⊎ ¬ IsPlace page cell q c → (later q).born c ≡ (stamps q).born c
    born_stays q c (inr differ) = (elsewhere q c differ).born
    born_stays q c (inl place) =
        ap (λ n. (later n).born c) place.0 ∙ ap (λ n. (later page).born n) place.1
        ∙ here_born form.old stands ∙ rw takes (ap (λ (s : Stamps). s.born cell) (sym v.sees.edited_page.stamps))
        ∙ ap (λ n. (stamps page).born n) (sym place.1) ∙ ap (λ n. (stamps n).born c) (sym place.0)

    go : IsPlace page cell from_page from_cell ⊎ ¬ IsPlace page cell from_page from_cell → (later from_page).meant from_cell ≡ (later back_page).born back_cell
    go (inl place) = absurd (names_none content back_page back_cell alone (subst (λ (w : Cell). NamesBack w back_page back_cell) (is_new one from_page from_cell version place link.stands) link.names))
    go (inr differ) =
        let was : LinksTo seen relation from_page from_cell version back_page back_cell = other_links put.sound one (no_link_cut put.sound page cell content form) relation from_page from_cell back_page back_cell version differ link in
        (elsewhere from_page from_cell differ).meant ∙ before relation from_page from_cell back_page back_cell version was ∙ sym (born_stays back_page back_cell (here_or_not page cell back_page back_cell))
