-- Each view that comes to hold an edited cell allows what is put there.
use Rattle.std.proofs.Common.{◌≡◌, ◌≢◌, ◌∙◌, ◌<◌, ◌==◌, ◌⊎◌, inl, inr, ℕ, Bool, true, false, if◌then◌else◌, Option, Some, refl, sym, ap, subst}
use Rattle.std.proofs.lemmas.Option.{same_Some}
use Rattle.fbc_kinds.proofs.Tests.{test_of_different}
use Rattle.fbc_kinds.specs.declared.edits.Edit.TheVariants.{PutCell}
use Rattle.fbc_kinds.specs.declared.pages.Cell.{Cell}
use Rattle.fbc_kinds.specs.declared.pages.Page.{Page}
use Rattle.fbc_kinds.specs.declared.pages.Page.TheVariants as kind
use Rattle.fbc_kinds.specs.declared.pages.State.TheVariants.{Dead}
use Rattle.fbc_kinds.specs.Reach.{LinksTo, ReachesCell}
use Rattle.fbc_kinds.specs.Sound.{IsBackValue}
use Rattle.fbc_kinds.specs.View.{View, cell_at, cell_in, is_back, is_committed_state, next_of}
use Rattle.fbc_version_edits.specs.Forms.{AllowsPut, AllowsPutOn, IsBackout, IsCut, IsFirst, IsMove, IsOver, IsOwnAgain, IsRaised, NamesNone}
use Rattle.fbc_page_edits.specs.Facing.{NameTheSame, IsLinked}
use Rattle.fbc_page_edits.proofs.HeaderStands.{has_header}
use Rattle.fbc_legal.specs.Facts.{HoldsBack}
use Rattle.fbc_legal.specs.Guards.{GuardOfEdit}
use Rattle.fbc_legal.specs.Leans.{LinkLeans}
use Rattle.fbc_legal.specs.Rows.{IsPut, as_back}
use Rattle.fbc_legal.specs.Rows.{IsBackout as IsBackoutAt, IsCut as IsCutAt, IsFirstVersion, IsMove as IsMoveAt, IsNewVersion, IsOwnChange}
use Rattle.fbc_legal.specs.Scene.{Scene, born_at, newest_at}
use Rattle.fbc_legal.specs.Stamps.{Stamps, newest_stamps}
use Rattle.fbc_closed_cuts.specs.Owed.{IsSeenKept, IsSeenNewest, SeesEdit}
use Rattle.fbc_closed_cuts.specs.Upheld.{IsUpheld}
use Rattle.fbc_closed_cuts.specs.Views.{view_stamps}
use Rattle.fbc_numbers.specs.Numbers.{IsNumbered, IsSnapshotNumber, is_committed_in}
use Rattle.fbc_origins.specs.Origins.{IsOriginal, IsSameVersion}
use Rattle.fbc_origins.proofs.PutPages.{IsPutPage, every_draft, newest-closed, newest-sound, newest-view, put-page, put-reached}
use Rattle.fbc_origins.proofs.CellsKept.{same-itself}
use Rattle.fbc_closed_cuts.proofs.LeansSeen.{lean-seen}
use Rattle.fbc_origins.proofs.Seeing.{begun-seen, committed-newest, committed-seen, lean-reached, one-stamps, one-view, seen-sound, stands-seen}

-- Two cells that say the same are one.
one_cell : (a b : Cell) → b.flag ≡ a.flag → b.number ≡ a.number → b.value ≡ a.value → NameTheSame a b → a ≡ b
one_cell a b same_flag same_number same_value link =
    λ i. record { flag = sym same_flag i; number = sym same_number i; value = sym same_value i; back_page = sym link.page i; back_cell = sym link.cell i }

module _ (at : Scene) (u : IsUpheld at) (n : IsNumbered at) (origin : IsOriginal at) (owner page cell : ℕ) (content : Cell) (g : GuardOfEdit at owner page (PutCell cell content))
    (seen : View) (stamps : ℕ → Stamps) (sees : SeesEdit at owner page seen stamps) where
  abbrev pub p : IsPutPage at owner page cell content
  p = put-page at owner page cell content g

  pub begun : content.number < next_of seen
  begun = begun-seen at owner page seen stamps sees content.number p.leans.begun

  pub stands : (version : Cell) → cell_at (newest_at at) page cell ≡ Some version → cell_at seen page cell ≡ Some version
  stands version is = stands-seen at owner page seen stamps sees cell version is

  pub allows-first : IsFirstVersion at owner page cell content → IsFirst seen page cell content
  allows-first f = record { old = f.old; stands = stands f.old f.stands; over = f.over; value = f.value; alone = f.alone; begun = begun }

  abbrev pub allows-own : IsOwnChange at owner page cell content → IsOwnAgain seen page cell content
  allows-own f = record {
    old = f.old;
    stands = stands f.old f.stands;
    over = f.over;
    top = f.top;
    same_number = f.own ∙ sym f.over_own;
    link = record { page = f.link.page; cell = f.link.cell };
  }

  pub allows-move : IsMoveAt at owner page cell content → IsMove seen page cell content
  allows-move f = record { old = f.old; stands = stands f.old f.stands; over = f.over; value = ap (λ (v : Cell). is_back v.flag) f.same; begun = begun }

  abbrev pub allows-cut : IsCutAt at page cell content → IsCut seen page cell content
  allows-cut f = record { old = f.old; stands = stands f.old f.stands; linked = test_of_different f.old.back_page 0 f.linked; same = f.same }

  -- A new version over another's.
  module _ (f : IsNewVersion at owner page cell content) where
    pub held : (is_committed_in at.world.kept f.old.number ≡ true) × (f.old.number < f.t.number)
    held = go (n.snapshots owner f.t f.old.number f.open_is f.held) where
      go : IsSnapshotNumber at.world f.t f.old.number → (is_committed_in at.world.kept f.old.number ≡ true) × (f.old.number < f.t.number)
      go (inl same) = absurd (f.over_other same)
      go (inr both) = both

    -- The header holds no back value.
    pub no_header : content.back_page ≢ 0
    no_header same =
        let header = has_header (newest_at at) (newest-sound at u) in
        absurd (let found : Some (as_back f.old) ≡ cell_in (Some (kind.Header header.header)) content.back_cell = sym f.back ∙ ap (λ b. cell_at (newest_at at) b content.back_cell) same ∙ ap (λ (o : Option Page). cell_in o content.back_cell) header.stands in cc)

    pub leans : LinkLeans at owner page p.data_page.relation content
    leans = p.leans.link no_header

    abbrev stamp : ℕ
    stamp = born_at at content.back_page content.back_cell

    -- The back value stands in the view as in the newest pages.
    pub back_there : IsSeenNewest at content.back_page (seen content.back_page) (stamps content.back_page) ⊎ IsSeenKept at content.back_page (seen content.back_page) (stamps content.back_page)
        → HoldsBack p.data_page.relation content.back_cell content.number stamp (seen content.back_page) (stamps content.back_page)
        → cell_at seen content.back_page content.back_cell ≡ Some (as_back f.old)
    back_there (inl shown) holds = ap (λ (o : Option Page). cell_in o content.back_cell) shown.page ∙ f.back
    back_there (inr shown) holds =
        let kept_stands : cell_in (at.world.kept content.back_page) content.back_cell ≡ Some holds.back = ap (λ (o : Option Page). cell_in o content.back_cell) (sym shown.page) ∙ holds.stands in
        let kept_born : (at.stamps.kept content.back_page).born content.back_cell ≡ stamp = ap (λ (s : Stamps). s.born content.back_cell) (sym shown.stamps) ∙ holds.same in
        let same : IsSameVersion holds.back (as_back f.old) = (origin.versions content.back_page content.back_cell holds.back (as_back f.old) kept_stands f.back kept_born).0 in
        let link : NameTheSame holds.back (as_back f.old) = origin.links owner content.back_page content.back_cell stamp holds.back (as_back f.old) f.moved kept_born refl kept_stands f.back in
        holds.stands ∙ ap Some (one_cell holds.back (as_back f.old) same.flag same.number same.value link)

    pub holds_seen : HoldsBack p.data_page.relation content.back_cell content.number stamp (seen content.back_page) (stamps content.back_page)
    holds_seen = lean-seen at owner page seen stamps sees (HoldsBack p.data_page.relation content.back_cell content.number stamp) content.back_page leans.back

    pub unreached : ¬ IsLinked seen content.back_page content.back_cell
    unreached =
        subst (λ (v : View). ¬ IsLinked v content.back_page content.back_cell) (one-view at owner page seen stamps sees)
        (origin.moves owner content.back_page content.back_cell stamp f.moved sees.cut sees.closed
        (subst (λ (s : ℕ → Stamps). (s content.back_page).born content.back_cell ≡ stamp) (sym (one-stamps at owner page seen stamps sees)) holds_seen.same))

    abbrev pub allows-over : IsOver seen p.data_page.relation page cell content
    allows-over = record {
      old = f.old;
      stands = stands f.old f.stands;
      over = f.over;
      committed = committed-seen at owner page seen stamps sees n.grow f.old.number held.0;
      top = f.top;
      newer = rw f.own held.1;
      begun = begun;
      linked = test_of_different content.back_page 0 no_header;
      sequence = leans.sequence;
      named = lean-reached at owner page seen stamps sees u p.data_page.relation leans.sequence leans.pointer content.back_page no_header leans.named leans.pointed;
      below = back_there (sees.each content.back_page) holds_seen;
      unreached = unreached;
    }

  -- A version is taken back.
  module _ (f : IsBackoutAt at page cell content) where
    pub linked : (f.old.back_page == 0) ≡ false
    linked = test_of_different f.old.back_page 0 f.linked

    pub uncommitted : (b : Bool) → is_committed_in seen f.old.number ≡ b → b ≡ false
    uncommitted false is = refl
    uncommitted true is =
        absurd (let no : is_committed_state Dead ≡ true = ap is_committed_state (sym f.dead) ∙ committed-newest at owner page seen stamps sees n.grow f.old.number is in cc)

    newest_link : LinksTo (newest_at at) p.data_page.relation page cell f.old f.old.back_page f.old.back_cell
    newest_link = record {
      reached = ReachesCell.top p.data_page.sequence page cell f.old (put-reached at owner page cell content g u) f.stands f.over;
      stands = f.stands;
      names = record { some = linked; page_is = refl; cell_is = refl };
    }

    -- What the top meant stands in the newest pages, and in each view that reaches it.
    newest_meant : (newest_stamps at.world at.stamps page).meant cell ≡ born_at at f.old.back_page f.old.back_cell
    newest_meant = ap (λ (s : Stamps). s.meant cell) (sym (same_stamps page)) ∙ meant_in ∙ ap (λ (s : Stamps). s.born f.old.back_cell) (same_stamps f.old.back_page) where
      meant_in : (view_stamps at.world at.stamps (every_draft at.world) page).meant cell ≡ (view_stamps at.world at.stamps (every_draft at.world) f.old.back_page).born f.old.back_cell
      meant_in = origin.meant (every_draft at.world) (newest-closed at.world) p.data_page.relation page cell f.old.back_page f.old.back_cell f.old
          (subst (λ (v : View). LinksTo v p.data_page.relation page cell f.old f.old.back_page f.old.back_cell) (sym (newest-view at.world)) newest_link)

      same_stamps : (q : ℕ) → view_stamps at.world at.stamps (every_draft at.world) q ≡ newest_stamps at.world at.stamps q
      same_stamps q = pick (every_draft at.world q) (at.stamps.draft q) (at.stamps.kept q) where
        pick : (c : Bool) (x y : Stamps) → (if c then (if c then x else y) else y) ≡ (if c then x else y)
        pick true x y = refl
        pick false x y = refl

    module _ (relation : ℕ) (link : LinksTo seen relation page cell f.old f.old.back_page f.old.back_cell) where
      value : IsBackValue seen relation f.old.back_page f.old.back_cell f.old.number
      value = (seen-sound at owner page seen stamps sees u).back relation page cell f.old.back_page f.old.back_cell f.old link

      seen_meant : (stamps page).meant cell ≡ (stamps f.old.back_page).born f.old.back_cell
      seen_meant =
          subst (λ (s : ℕ → Stamps). (s page).meant cell ≡ (s f.old.back_page).born f.old.back_cell) (one-stamps at owner page seen stamps sees)
          (origin.meant sees.cut sees.closed relation page cell f.old.back_page f.old.back_cell f.old
          (subst (λ (v : View). LinksTo v relation page cell f.old f.old.back_page f.old.back_cell) (sym (one-view at owner page seen stamps sees)) link))

      same_below : IsSeenNewest at f.old.back_page (seen f.old.back_page) (stamps f.old.back_page) ⊎ IsSeenKept at f.old.back_page (seen f.old.back_page) (stamps f.old.back_page) → IsSameVersion value.back f.back
      same_below (inl shown) =
          let same : value.back ≡ f.back = same_Some value.back f.back (sym value.stands ∙ ap (λ (o : Option Page). cell_in o f.old.back_cell) shown.page ∙ f.below) in
          subst (IsSameVersion value.back) same (same-itself value.back)
      same_below (inr shown) =
          let kept_stands : cell_in (at.world.kept f.old.back_page) f.old.back_cell ≡ Some value.back = ap (λ (o : Option Page). cell_in o f.old.back_cell) (sym shown.page) ∙ value.stands in
          let kept_born : (at.stamps.kept f.old.back_page).born f.old.back_cell ≡ born_at at f.old.back_page f.old.back_cell =
          ap (λ (s : Stamps). s.born f.old.back_cell) (sym shown.stamps) ∙ sym seen_meant ∙ ap (λ (s : Stamps). s.meant cell) sees.edited_page.stamps ∙ newest_meant in
          (origin.versions f.old.back_page f.old.back_cell value.back f.back kept_stands f.below kept_born).0

      link_of : NameTheSame value.back f.back ⊎ NamesNone f.back → NamesNone content ⊎ NameTheSame value.back content
      link_of (inl same) = inr (record { page = ap (λ (v : Cell). v.back_page) f.same ∙ same.page; cell = ap (λ (v : Cell). v.back_cell) f.same ∙ same.cell })
      link_of (inr none) = inl (ap (λ (v : Cell). v.back_page) f.same ∙ none)

      pub raised : IsRaised seen content f.old.back_page f.old.back_cell
      raised =
          let same : IsSameVersion value.back f.back = same_below (sees.each f.old.back_page) in
          record {
            below = value.back;
            stands = value.stands;
            same_number = ap (λ (v : Cell). v.number) f.same ∙ same.number;
            same_value = ap (λ (v : Cell). v.value) f.same ∙ same.value;
            link = link_of same.link;
          }

    abbrev pub allows-backout : IsBackout seen page cell content
    allows-backout = record {
      old = f.old;
      stands = stands f.old f.stands;
      over = f.over;
      uncommitted = uncommitted (is_committed_in seen f.old.number) refl;
      value = ap (λ (v : Cell). v.flag) f.same;
      linked = linked;
      raised = raised;
    }

  allows : IsPut at owner page cell content → AllowsPut seen p.data_page.relation page cell content
  allows (IsPut.first f) = AllowsPut.first (allows-first f)
  allows (IsPut.over_own f) = AllowsPut.own_again (allows-own f)
  allows (IsPut.over f) = AllowsPut.over (allows-over f)
  allows (IsPut.move f) = AllowsPut.move (allows-move f)
  allows (IsPut.backout f) = AllowsPut.backout (allows-backout f)
  allows (IsPut.cut f) = AllowsPut.cut (allows-cut f)

  pub page-seen : seen page ≡ Some (kind.Data p.data_page)
  page-seen = sees.edited_page.page ∙ p.stands

  pub puts-allowed : AllowsPutOn seen page cell content (seen page)
  puts-allowed = rw page-seen (allows g.row)
