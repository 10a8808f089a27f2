-- A back value that was moved is reached in no view, after each event.
use Rattle.std.proofs.Common.{◌≡◌, ◌∙◌, ◌≤◌, ◌==◌, ◌⊎◌, inl, inr, ℕ, suc, Bool, true, false, ◌∷◌, length, Option, Some, None, is_some, if◌then◌else◌, refl, sym, ap, subst, arith}
use Rattle.std.proofs.Math.Path.{fun_ext}
use Rattle.fbc_kinds.specs.declared.edits.Edit.{Edit}
use Rattle.fbc_kinds.specs.declared.edits.Edit.TheVariants as edit
use Rattle.fbc_kinds.specs.declared.pages.Cell.{Cell}
use Rattle.fbc_kinds.specs.declared.pages.Page.{Page}
use Rattle.fbc_kinds.specs.declared.shapes.Shape.{Shape}
use Rattle.fbc_kinds.specs.DataSpelling.{empty_cell}
use Rattle.fbc_kinds.specs.Reach.{DataRole, LinksTo, Reaches, ReachesCell}
use Rattle.fbc_kinds.specs.View.{View, cell_in, is_back, is_top}
use Rattle.fbc_kinds.proofs.Tests.{differ_from_test, same_from_test, test_of_same, test_of_different}
use Rattle.fbc_version_edits.specs.Forms.{IsBackout, IsMove, IsOver, IsOwnAgain}
use Rattle.fbc_page_edits.specs.Allowed.{Fits}
use Rattle.fbc_page_edits.specs.Edited.{with_page}
use Rattle.fbc_page_edits.specs.Facing.{IsLinked}
use Rattle.fbc_page_edits.proofs.OffReach.{off_reach_alike}
use Rattle.fbc_world.specs.declared.events.Act.{Act}
use Rattle.fbc_world.specs.declared.events.Act.TheVariants.{Local}
use Rattle.fbc_world.specs.declared.events.LocalEvent.TheVariants as local
use Rattle.fbc_world.specs.History.{History, Moment, happens}
use Rattle.fbc_world.specs.PageCell.{drafted, newest_in}
use Rattle.fbc_world.specs.World.{page_after, world_of}
use Rattle.fbc_legal.specs.Guards.{GuardOfEdit}
use Rattle.fbc_legal.specs.Legal.{IsLegal}
use Rattle.fbc_legal.specs.Rows.{IsNewVersion, IsPut, without_link}
use Rattle.fbc_legal.specs.Scene.{Scene, newest_after, newest_at, scene_of}
use Rattle.fbc_legal.specs.Stamps.{Stamps, born_after, born_in_newest, newest_stamps, stamp_after, stamped, takes_link}
use Rattle.fbc_closed_cuts.specs.Views.{is_edit}
use Rattle.fbc_version_edits.specs.Differences.{IsPlace}
use Rattle.fbc_version_edits.specs.Puts.{IsClearIn, IsPutIn}
use Rattle.fbc_version_edits.proofs.Flags.{top_of_back}
use Rattle.fbc_version_edits.proofs.NoLinkForms.{move_unlinked, no_link_clear, no_link_cut, no_link_first, no_link_move, no_link_own}
use Rattle.fbc_version_edits.proofs.NoNewLinks.{names_none, no_more_links, other_links, own_links}
use Rattle.fbc_version_edits.proofs.OneCell.{IsOneCell, here_or_not, one_cell_cleared, one_cell_put, reached_after}
use Rattle.fbc_version_edits.proofs.Over.{FromOver, from_over, kept, made, own_relation, taken_along}
use Rattle.fbc_version_edits.proofs.TakenBack.{FromBelow, from_below, kept as was_kept, raised}
use Rattle.fbc_origins.specs.Origins.{EveryView, MovesAreUnreached}
use Rattle.fbc_origins.specs.Owed.{IsInOrder, LinksStay, MakeNoLinks}
use Rattle.fbc_origins.proofs.ClearsAllowed.{IsUnnamed, clears-unnamed}
use Rattle.fbc_origins.proofs.LinksNext.{clear_in, put_in}
use Rattle.fbc_origins.proofs.Meant.{meant-seen}
use Rattle.fbc_origins.proofs.MovedBefore.{IsMoveNow, IsStillMoved, moved-at, moved-past}
use Rattle.fbc_origins.proofs.NewestFits.{newest-fits}
use Rattle.fbc_origins.proofs.NewLinks.{moved_unreached}
use Rattle.fbc_origins.proofs.PutPages.{IsPutPage, newest-shape, newest-sound, put-page, put-reached}
use Rattle.fbc_origins.proofs.PutsAllowed.{allows-backout, allows-cut, allows-first, allows-move, allows-over, allows-own, no_header}
use Rattle.fbc_origins.proofs.PutLinks.{here_born, one_flag}
use Rattle.fbc_origins.proofs.Seeing.{seen-sound}
use Rattle.fbc_origins.proofs.ViewsNext.{IsEditedView, views-acted, views-edited}

-- A cut takes the link.
cut_takes : (old new : Cell) → (old.back_page == 0) ≡ false → new ≡ without_link old → takes_link old new ≡ true
cut_takes old new some same = rw (same, one_flag old.flag, test_of_same old.number old.number refl, some) refl

-- The stamps of the newest pages are past.
newest_past : (at : Scene) → IsInOrder at → (page cell : ℕ) → (newest_stamps at.world at.stamps page).born cell ≤ length at.past
newest_past at order page cell = go (is_some (at.world.draft page)) where
  go : (c : Bool) → (if c then at.stamps.draft page else at.stamps.kept page).born cell ≤ length at.past
  go true = (order.original.past page).1.born cell
  go false = (order.original.past page).0.born cell

-- A stamp of before was there before the edit.
older-born : (count : ℕ) (born : ℕ → ℕ → ℕ) (old : Option Page) (s : Stamps) (cell stamp : ℕ) → stamp ≤ count → (e : Edit) → (stamped (suc count) born old e s).born cell ≡ stamp → s.born cell ≡ stamp
older-born count born old s cell stamp past (edit.PutCell place new) is = go (cell == place) is where
  over : (found : Option Cell) → born_after (suc count) (s.born cell) new found ≡ stamp → s.born cell ≡ stamp
  over None at = absurd (grind (arith, past, at))
  over (Some top) at = by (takes_link top new) at where
    by : (b : Bool) → (if b then s.born cell else suc count) ≡ stamp → s.born cell ≡ stamp
    by true same = same
    by false same = absurd (grind (arith, past, same))

  go : (b : Bool) → (if b then born_after (suc count) (s.born cell) new (cell_in old cell) else s.born cell) ≡ stamp → s.born cell ≡ stamp
  go true at = over (cell_in old cell) at
  go false at = at
older-born count born old s cell stamp past (edit.ClearCell place) is = go (cell == place) is where
  go : (b : Bool) → (if b then suc count else s.born cell) ≡ stamp → s.born cell ≡ stamp
  go true at = absurd (grind (arith, past, at))
  go false at = at
older-born count born old s cell stamp past (edit.Format k number relation sequence) is = absurd (grind (arith, past, is))
older-born count born old s cell stamp past _ is = is

module _ (at : Scene) (order : IsInOrder at) (owner page : ℕ) (e : Edit) (content : Page) (g : GuardOfEdit at owner page e) (is : page_after at.shape at.world owner page e ≡ Some content) (stay : LinksStay at owner page e content)
    (seen : View) (stamps : ℕ → Stamps) (after : View) (later : ℕ → Stamps) (v : IsEditedView at owner page e content seen stamps after later) where
  abbrev next : View
  next = with_page seen page content

  abbrev newest_next : View
  newest_next = with_page (newest_at at) page content

  -- A cell that is linked afterwards was so before, or is so in the newest pages.
  abbrev Found : ℕ → ℕ → Type 0
  Found q c = IsLinked seen q c ⊎ IsLinked newest_next q c

  found_seen : (relation from_page from_cell q c : ℕ) (version : Cell) → LinksTo seen relation from_page from_cell version q c → Found q c
  found_seen relation from_page from_cell q c version link = inl (record { relation = relation; from_page = from_page; from_cell = from_cell; version = version; links = link })

  born_before : (q c stamp : ℕ) → stamp ≤ length at.past → (later q).born c ≡ stamp → (stamps q).born c ≡ stamp
  born_before q c stamp past born = go (q == page) refl where
    go : (b : Bool) → (q == page) ≡ b → (stamps q).born c ≡ stamp
    go false apart = ap (λ (s : Stamps). s.born c) (sym (v.others q (differ_from_test q page apart))) ∙ born
    go true same =
        let one : q ≡ page = same_from_test q page same in
        subst (λ n. (stamps n).born c ≡ stamp) (sym one)
        (ap (λ (s : Stamps). s.born c) v.sees.edited_page.stamps
        ∙ older-born (length at.past) (born_in_newest at.world at.stamps) (newest_at at page) (newest_stamps at.world at.stamps page) c stamp past e
        (ap (λ (s : Stamps). s.born c) (sym v.now) ∙ ap (λ n. (later n).born c) (sym one) ∙ born))

module _ (at : Scene) (order : IsInOrder at) (owner page cell : ℕ) (content : Cell) (made_page : Page) (g : GuardOfEdit at owner page (edit.PutCell cell content)) (is : page_after at.shape at.world owner page (edit.PutCell cell content) ≡ Some made_page)
    (seen : View) (stamps : ℕ → Stamps) (after : View) (later : ℕ → Stamps) (v : IsEditedView at owner page (edit.PutCell cell content) made_page seen stamps after later)
    (put : IsPutIn at.shape seen page cell content made_page) (same_relation : put.page.relation ≡ (put-page at owner page cell content g).data_page.relation) where
  abbrev put_next : View
  put_next = with_page seen page made_page

  abbrev put_newest : View
  put_newest = with_page (newest_at at) page made_page

  abbrev FoundPut : ℕ → ℕ → Type 0
  FoundPut q c = IsLinked seen q c ⊎ IsLinked put_newest q c

  linked : (relation from_page from_cell q c : ℕ) (version : Cell) → LinksTo seen relation from_page from_cell version q c → FoundPut q c
  linked relation from_page from_cell q c version link = inl (record { relation = relation; from_page = from_page; from_cell = from_cell; version = version; links = link })

  abbrev p : IsPutPage at owner page cell content
  p = put-page at owner page cell content g

  -- In the newest pages the new version leads to the moved one.
  newest_link : (f : IsNewVersion at owner page cell content) → IsLinked put_newest content.back_page content.back_cell
  newest_link f =
      let put_there : IsPutIn at.shape (newest_at at) page cell content made_page = record {
        of_shape = newest-shape at order.upheld;
        sound = newest-sound at order.upheld;
        page = p.data_page;
        stands = p.stands;
        fits = subst (λ (o : Option Page). Fits at.shape (edit.PutCell cell content) o made_page) p.stands (newest-fits at order.upheld.coherent owner page (edit.PutCell cell content) made_page g is);
      } in
      let one : IsOneCell (newest_at at) put_newest page cell f.old content = one_cell_put put_there f.stands in
      record {
        relation = p.data_page.relation;
        from_page = page;
        from_cell = cell;
        version = content;
        links = record {
          reached = ReachesCell.top p.data_page.sequence page cell content (reached_after one (DataRole p.data_page.relation p.data_page.sequence) page (put-reached at owner page cell content g order.upheld)) one.is f.top;
          stands = one.is;
          names = record { some = test_of_different content.back_page 0 (no_header at order.upheld order.numbered order.original owner page cell content g seen stamps v.sees f); page_is = refl; cell_is = refl };
        };
      }

  at_source : (relation from_page from_cell q c : ℕ) (version : Cell) → IsPlace page cell from_page from_cell → LinksTo put_next relation from_page from_cell version q c → LinksTo put_next relation page cell version q c
  at_source relation from_page from_cell q c version place link =
      subst (λ n. LinksTo put_next relation page n version q c) place.1 (subst (λ n. LinksTo put_next relation n from_cell version q c) place.0 link)

  pub found-put : IsPut at owner page cell content → (relation from_page from_cell q c : ℕ) (version : Cell) → LinksTo put_next relation from_page from_cell version q c → FoundPut q c
  found-put (IsPut.first f) relation from_page from_cell q c version link =
      let form = allows-first at order.upheld order.numbered order.original owner page cell content g seen stamps v.sees f in
      linked relation from_page from_cell q c version
      (no_more_links put.sound (one_cell_put put form.stands) (no_link_first put.sound page cell content form) (λ r bp bc reached names. names_none content bp bc form.alone names) relation from_page from_cell q c version link)
  found-put (IsPut.over_own f) relation from_page from_cell q c version link = go (here_or_not page cell from_page from_cell) where
    form : IsOwnAgain seen page cell content
    form = allows-own at order.upheld order.numbered order.original owner page cell content g seen stamps v.sees f

    go : IsPlace page cell from_page from_cell ⊎ ¬ IsPlace page cell from_page from_cell → FoundPut q c
    go (inr differ) = linked relation from_page from_cell q c version (other_links put.sound (one_cell_put put form.stands) (no_link_own put.sound page cell content form) relation from_page from_cell q c version differ link)
    go (inl place) =
        linked relation page cell q c form.old (own_links put.sound (one_cell_put put form.stands) (no_link_own put.sound page cell content form) relation q c version (at_source relation from_page from_cell q c version place link))
  found-put (IsPut.over f) relation from_page from_cell q c version link = go (from_over put.sound form (one_cell_put put form.stands) own relation from_page from_cell q c version link) where
    form : IsOver seen p.data_page.relation page cell content
    form = allows-over at order.upheld order.numbered order.original owner page cell content g seen stamps v.sees f

    own : (other sequence : ℕ) → Reaches seen (DataRole other sequence) page → other ≡ p.data_page.relation
    own other sequence reached = own_relation put other sequence reached ∙ same_relation

    go : FromOver put.sound form (one_cell_put put form.stands) own relation from_page from_cell version q c → FoundPut q c
    go (kept differ was) = linked relation from_page from_cell q c version was
    go (made place same to reached) = inr (subst (λ n. IsLinked put_newest q n) (sym to.1) (subst (λ n. IsLinked put_newest n content.back_cell) (sym to.0) (newest_link f)))
    go (taken_along place same was) = linked relation page cell q c form.old was
  found-put (IsPut.move f) relation from_page from_cell q c version link = go (here_or_not page cell from_page from_cell) where
    form : IsMove seen page cell content
    form = allows-move at order.upheld order.numbered order.original owner page cell content g seen stamps v.sees f

    go : IsPlace page cell from_page from_cell ⊎ ¬ IsPlace page cell from_page from_cell → FoundPut q c
    go (inr differ) = linked relation from_page from_cell q c version (other_links put.sound (one_cell_put put form.stands) (no_link_move put.sound page cell content form) relation from_page from_cell q c version differ link)
    go (inl place) = absurd (moved_unreached put.sound form (one_cell_put put form.stands) relation (at_source relation from_page from_cell q c version place link).reached)
  found-put (IsPut.backout f) relation from_page from_cell q c version link = go (from_below put.sound form (one_cell_put put form.stands) relation from_page from_cell q c version link) where
    form : IsBackout seen page cell content
    form = allows-backout at order.upheld order.numbered order.original owner page cell content g seen stamps v.sees f

    go : FromBelow put.sound form (one_cell_put put form.stands) relation from_page from_cell version q c → FoundPut q c
    go (was_kept differ others was) = linked relation from_page from_cell q c version was
    go (raised place reached same was) = linked relation form.old.back_page form.old.back_cell q c _ was
  found-put (IsPut.cut f) relation from_page from_cell q c version link =
      let form = allows-cut at order.upheld order.numbered order.original owner page cell content g seen stamps v.sees f in
      linked relation from_page from_cell q c version
      (no_more_links put.sound (one_cell_put put form.stands) (no_link_cut put.sound page cell content form) (λ r bp bc reached names. names_none content bp bc (ap (λ (w : Cell). w.back_page) form.same) names) relation from_page from_cell q c version link)

  -- A back value that is put now is not reached.
  pub put-unmoved : is_back content.flag ≡ true → (stamp : ℕ) → stamp ≡ stamp_after at.past → (later page).born cell ≡ stamp → ¬ IsLinked put_next page cell
  put-unmoved back stamp number born now = go g.row where
    no_top : is_top content.flag ≡ true → ⊥
    no_top is_one = absurd (let both : true ≡ false = sym is_one ∙ top_of_back content.flag back in cc)

    go : IsPut at owner page cell content → ⊥
    go (IsPut.first f) = no_top (ap is_top f.value)
    go (IsPut.over_own f) = no_top f.top
    go (IsPut.over f) = no_top f.top
    go (IsPut.backout f) = no_top (ap (λ (w : Cell). is_top w.flag) f.same)
    go (IsPut.move f) =
        let form : IsMove seen page cell content = allows-move at order.upheld order.numbered order.original owner page cell content g seen stamps v.sees f in
        moved_off form (here_or_not page cell now.from_page now.from_cell)
      where
        moved_off : (form : IsMove seen page cell content) → IsPlace page cell now.from_page now.from_cell ⊎ ¬ IsPlace page cell now.from_page now.from_cell → ⊥
        moved_off form (inl place) = moved_unreached put.sound form (one_cell_put put form.stands) now.relation (at_source now.relation now.from_page now.from_cell page cell now.version place now.links).reached
        moved_off form (inr differ) =
            move_unlinked put.sound page cell content form
            (record {
              relation = now.relation;
              from_page = now.from_page;
              from_cell = now.from_cell;
              version = now.version;
              links = other_links put.sound (one_cell_put put form.stands) (no_link_move put.sound page cell content form) now.relation now.from_page now.from_cell page cell now.version differ now.links;
            })
    go (IsPut.cut f) =
        let takes : takes_link f.old content ≡ true = cut_takes f.old content (test_of_different f.old.back_page 0 f.linked) f.same in
        let old_born : (later page).born cell ≡ (newest_stamps at.world at.stamps page).born cell =
        here_born at order owner page cell content made_page g seen stamps after later v put f.old f.stands ∙ rw takes refl in
        absurd (grind (arith, old_born, born, number, newest_past at order page cell))

-- In a view a cell with this stamp is not reached.
abbrev pub IsUnreached : ℕ → ℕ → ℕ → View → (ℕ → Stamps) → Type 0
IsUnreached page cell stamp seen stamps = (stamps page).born cell ≡ stamp → ¬ IsLinked seen page cell

module _ (at : Scene) (order : IsInOrder at) (owner edited : ℕ) (content : Page) (seen : View) (stamps : ℕ → Stamps) (after : View) (later : ℕ → Stamps) where
  abbrev next_view : View
  next_view = with_page seen edited content

  abbrev next_newest : View
  next_newest = with_page (newest_at at) edited content

  -- A cell that is linked afterwards was so before, or is so in the newest pages.
  found : (e : Edit) → GuardOfEdit at owner edited e → page_after at.shape at.world owner edited e ≡ Some content → LinksStay at owner edited e content → IsEditedView at owner edited e content seen stamps after later
      → Fits at.shape e (seen edited) content → (relation from_page from_cell q c : ℕ) (version : Cell) → LinksTo next_view relation from_page from_cell version q c → IsLinked seen q c ⊎ IsLinked next_newest q c
  found (edit.PutCell cell version) g is stay v fits relation from_page from_cell q c linked_version link =
      found-put at order owner edited cell version content g is seen stamps after later v (put_in at order owner edited content seen stamps after later (meant-seen at order.original.meant owner edited seen stamps v.sees) cell version g v fits) refl g.row relation from_page from_cell q c linked_version link
  found (edit.ClearCell cell) g is stay v fits relation from_page from_cell q c version link =
      let unnamed : IsUnnamed seen edited cell = clears-unnamed at order owner edited cell g seen stamps v.sees in
      let clear : IsClearIn at.shape seen edited cell content = clear_in at order owner edited content seen stamps after later (meant-seen at order.original.meant owner edited seen stamps v.sees) cell v fits in
      inl (record {
        relation = relation;
        from_page = from_page;
        from_cell = from_cell;
        version = version;
        links = no_more_links clear.sound (one_cell_cleared clear unnamed.stands) (no_link_clear clear.sound edited cell unnamed.old unnamed.unnamed) (λ r bp bc reached names. names_none empty_cell bp bc refl names)
            relation from_page from_cell q c version link;
      })
  found (edit.Format k number kind_relation sequence) g is stay v fits relation from_page from_cell q c version link =
      inl (record {
        relation = relation;
        from_page = from_page;
        from_cell = from_cell;
        version = version;
        links = (off_reach_alike seen edited content (v.sees.unreached edited g.leans.nowhere g.row.no_header g.row.no_inventory) (seen-sound at owner edited seen stamps v.sees order.upheld)).links
            relation from_page from_cell q c version link;
      })
  found _ g is stay v fits relation from_page from_cell q c version link =
      inl (record { relation = relation; from_page = from_page; from_cell = from_cell; version = version; links = stay refl seen stamps v.sees relation from_page from_cell q c version link })

  pub unreached-kept : (e : Edit) → GuardOfEdit at owner edited e → page_after at.shape at.world owner edited e ≡ Some content → LinksStay at owner edited e content → IsEditedView at owner edited e content seen stamps after later
      → (page cell stamp : ℕ) → stamp ≤ length at.past → ¬ IsLinked next_newest page cell → IsUnreached page cell stamp seen stamps → IsUnreached page cell stamp after later
  unreached-kept e g is stay v page cell stamp past none was = subst (λ (w : View). IsUnreached page cell stamp w later) v.pages kept_off where
    fits : Fits at.shape e (seen edited) content
    fits = rw v.sees.edited_page.page (newest-fits at order.upheld.coherent owner edited e content g is)

    kept_off : IsUnreached page cell stamp next_view later
    kept_off born linked_now = go (found e g is stay v fits linked_now.relation linked_now.from_page linked_now.from_cell page cell linked_now.version linked_now.links) where
      go : IsLinked seen page cell ⊎ IsLinked next_newest page cell → ⊥
      go (inl before) = was (born_before at order owner edited e content g is stay seen stamps after later v page cell stamp past born) before
      go (inr also) = none also

-- The newest pages after an edit.
pub newest-edited : (shape : Shape) (file : View) (before : History) (owner page : ℕ) (e : Edit) (landed : Bool) (content : Page) → page_after shape (world_of shape file before) owner page e ≡ Some content
    → newest_after shape file (happens owner (Local (local.Edit page e)) landed ∷ before) ≡ with_page (newest_after shape file before) page content
newest-edited shape file before owner page e landed content is = fun_ext (λ q. go q (q == page) (page_after shape (world_of shape file before) owner page e) is) where
  go : (q : ℕ) (b : Bool) (found : Option Page) → found ≡ Some content
      → newest_in ((world_of shape file before).kept q) (if b then drafted owner ((world_of shape file before).draft q) found else (world_of shape file before).draft q) ≡ (if b then Some content else newest_after shape file before q)
  go q true found same = rw same refl
  go q false found same = refl

module _ (shape : Shape) (file : View) (before : History) (order : IsInOrder (scene_of shape file before)) (no_links : MakeNoLinks (scene_of shape file before)) where
  abbrev scene : Scene
  scene = scene_of shape file before

  -- No view of before has the stamp of the next event.
  view_past : (stamp page cell : ℕ) → stamp ≡ stamp_after before → EveryView scene (IsUnreached page cell stamp)
  view_past stamp page cell number cut closed born = absurd (grind (arith, number, born, below (cut page))) where
    below : (c : Bool) → (if c then newest_stamps scene.world scene.stamps page else scene.stamps.kept page).born cell ≤ length before
    below true = newest_past scene order page cell
    below false = (order.original.past page).0.born cell

  module _ (owner page cell stamp : ℕ) where
    -- A put of this moment.
    put_now : (actor number : ℕ) (e : Edit) (content : Page) (g : GuardOfEdit scene actor number e) (is : page_after shape scene.world actor number e ≡ Some content) (moved : Cell) → e ≡ edit.PutCell cell moved → number ≡ page → is_back moved.flag ≡ true
        → stamp ≡ stamp_after before → (seen : View) (stamps : ℕ → Stamps) (after : View) (later : ℕ → Stamps) → IsEditedView scene actor number e content seen stamps after later → IsUnreached page cell stamp after later
    put_now actor number (edit.PutCell place new) content g is moved same one back stamp_is seen stamps after later v =
        subst (λ (w : View). IsUnreached page cell stamp w later) v.pages kept_off where
          fits : Fits shape (edit.PutCell place new) (seen number) content
          fits = rw v.sees.edited_page.page (newest-fits scene order.upheld.coherent actor number (edit.PutCell place new) content g is)

          new_back : is_back new.flag ≡ true
          new_back = let same_content : new ≡ moved = cc in ap (λ (w : Cell). is_back w.flag) same_content ∙ back

          same_place : place ≡ cell
          same_place = cc

          kept_off : IsUnreached page cell stamp (with_page seen number content) later
          kept_off =
              subst (λ q. IsUnreached q cell stamp (with_page seen number content) later) one
              (subst (λ c. IsUnreached number c stamp (with_page seen number content) later) same_place
              (put-unmoved scene order actor number place new content g is seen stamps after later v (put_in scene order actor number content seen stamps after later (meant-seen scene order.original.meant actor number seen stamps v.sees) place new g v fits) refl new_back stamp stamp_is))
    put_now actor number _ content g is moved same one back stamp_is seen stamps after later v = absurd cc

    edited : (actor number : ℕ) (e : Edit) (landed : Bool) → IsLegal shape file (happens actor (Local (local.Edit number e)) landed ∷ before) → (found_page : Option Page) → page_after shape (world_of shape file before) actor number e ≡ found_page → is_some found_page ≡ true
        → IsMoveNow shape file owner page cell stamp before (happens actor (Local (local.Edit number e)) landed) ⊎ IsStillMoved shape file owner page cell stamp before (happens actor (Local (local.Edit number e)) landed)
        → EveryView (scene_of shape file (happens actor (Local (local.Edit number e)) landed ∷ before)) (IsUnreached page cell stamp)
    edited actor number e landed legal None is fits how = absurd cc
    edited actor number e landed legal (Some content) is fits (inr held) =
        views-edited shape file before (IsUnreached page cell stamp) actor number e landed legal content is (order.original.moves owner page cell stamp held.was)
        (λ seen stamps after later v was. unreached-kept scene order actor number content seen stamps after later e legal.1.guard is (no_links actor number e content legal.1.guard is) v page cell stamp
        (moved-past shape file owner page cell stamp before held.was)
        (subst (λ (w : View). ¬ IsLinked w page cell) (newest-edited shape file before actor number e landed content is) held.unreached) was)
    edited actor number e landed legal (Some content) is fits (inl now) =
        views-edited shape file before (IsUnreached page cell stamp) actor number e landed legal content is (view_past stamp page cell now.number)
        (λ seen stamps after later v was. put_now actor number e content legal.1.guard is now.content (let act = now.is.act in cc) (let act = now.is.act in cc) now.back now.number seen stamps after later v)

    plain : (moment : Moment) → IsLegal shape file (moment ∷ before) → is_edit moment.event.act ≡ false → IsMoveNow shape file owner page cell stamp before moment ⊎ IsStillMoved shape file owner page cell stamp before moment
        → EveryView (scene_of shape file (moment ∷ before)) (IsUnreached page cell stamp)
    plain moment legal none (inl now) = absurd (let both : true ≡ false = sym (ap is_edit now.is.act) ∙ none in cc)
    plain moment legal none (inr held) = views-acted shape file before (IsUnreached page cell stamp) moment legal none (order.original.moves owner page cell stamp held.was)

    fits_of : (actor number : ℕ) (e : Edit) → GuardOfEdit scene actor number e → is_some (page_after shape (world_of shape file before) actor number e) ≡ true
    fits_of actor number e g = g.fits

    step : (actor : ℕ) (act : Act) (landed : Bool) → IsLegal shape file (happens actor act landed ∷ before)
        → IsMoveNow shape file owner page cell stamp before (happens actor act landed) ⊎ IsStillMoved shape file owner page cell stamp before (happens actor act landed)
        → EveryView (scene_of shape file (happens actor act landed ∷ before)) (IsUnreached page cell stamp)
    step actor (Local (local.Edit number e)) landed legal how = edited actor number e landed legal (page_after shape (world_of shape file before) actor number e) refl (fits_of actor number e legal.1.guard) how
    step actor (Local (local.Before high low)) landed legal how = plain (happens actor (Local (local.Before high low)) landed) legal refl how
    step actor (Local (local.Pin number)) landed legal how = plain (happens actor (Local (local.Pin number)) landed) legal refl how
    step actor (Local (local.Unpin number)) landed legal how = plain (happens actor (Local (local.Unpin number)) landed) legal refl how
    step actor act landed legal how = plain (happens actor act landed) legal refl how

  pub unreached-next : (moment : Moment) → IsLegal shape file (moment ∷ before) → MovesAreUnreached (scene_of shape file (moment ∷ before))
  unreached-next moment legal owner page cell stamp moved = step owner page cell stamp moment.event.actor moment.event.act moment.landed legal (moved-at shape file owner page cell stamp (moment ∷ before) moved)
