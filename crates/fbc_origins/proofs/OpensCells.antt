-- Rows of open numbers are named, or drafted by their owners, after edits of cells.
use Rattle.std.proofs.Common.{◌≡◌, ◌∙◌, ◌==◌, ◌&&◌, ◌⊎◌, ◌/◌, ℕ, Bool, true, false, inl, inr, Option, Some, refl, sym, ap, subst}
use Rattle.std.proofs.lemmas.Option.{same_Some}
use Rattle.fbc_kinds.specs.declared.edits.Edit.TheVariants.{ClearCell, PutCell}
use Rattle.fbc_kinds.specs.declared.pages.Cell.{Cell}
use Rattle.fbc_kinds.specs.declared.pages.Page.{Page}
use Rattle.fbc_kinds.specs.declared.shapes.Shape.{Shape}
use Rattle.fbc_kinds.specs.declared.snapshots.Transaction.{Transaction}
use Rattle.fbc_kinds.specs.DataSpelling.{empty_cell}
use Rattle.fbc_kinds.specs.Limits.{slots}
use Rattle.fbc_kinds.specs.Reach.{DataRole, shows_role}
use Rattle.fbc_kinds.specs.Sound.{IsSound}
use Rattle.fbc_kinds.specs.View.{View, cell_at, is_top, pointer_of}
use Rattle.fbc_kinds.proofs.Tests.{differ_from_test, same_from_test}
use Rattle.fbc_legal.proofs.Exclusion.{both_of}
use Rattle.fbc_legal.specs.Guards.{GuardOfEdit}
use Rattle.fbc_legal.specs.Naming.{IsNamedData}
use Rattle.fbc_legal.specs.Rows.{HasOpen, IsPut}
use Rattle.fbc_legal.specs.Scene.{Scene, newest_at}
use Rattle.fbc_legal.specs.Stamps.{Stamps}
use Rattle.fbc_closed_cuts.specs.Owed.{IsSeenKept, IsSeenNewest, SeesEdit}
use Rattle.fbc_origins.specs.Owed.{IsInOrder}
use Rattle.fbc_origins.proofs.PutPages.{IsPutPage, named-reached, put-page}
use Rattle.fbc_origins.proofs.Seeing.{seen-shape, seen-sound, stands-seen}
use Rattle.fbc_version_edits.specs.Differences.{IsPlace}
use Rattle.fbc_version_edits.proofs.OneCell.{IsOneCell, here_or_not, is_new}
use Rattle.fbc_origins.specs.Rows.{IsNamedOrDrafted, IsSettledTop, NamesRow}
use Rattle.fbc_origins.proofs.PointersCame.{pointer-grown}
use Rattle.fbc_origins.proofs.PutsNamed.{IsNamedFrom, names-back}
use Rattle.fbc_origins.proofs.RowsNext.{IsOneCleared, IsStanding, clear-one, put-one, standing}
use Rattle.fbc_origins.proofs.RowsOfTops.{HoldsOfRows, OpensAreNamedIn, IsTopOf}
use Rattle.fbc_page_edits.specs.Edited.{with_page}
use Rattle.fbc_world.specs.World.{page_after}

-- One cell has another content: what is claimed of rows is so still, if it is so of the rows of that content.
pub one-cell-holds : (shape : Shape) (IsSuch : Cell → Type 0) (Claim : ℕ → ℕ → ℕ → ℕ → Type 0) (seen after : View) (page cell : ℕ) (old new : Cell) → IsOneCell seen after page cell old new
    → (IsSuch new → (relation sequence pointer : ℕ) → NamesRow shape seen relation sequence pointer page → Claim relation sequence pointer page) → HoldsOfRows shape IsSuch Claim seen → HoldsOfRows shape IsSuch Claim after
one-cell-holds shape IsSuch Claim seen after page cell old new one here each relation sequence pointer other place top row stands such = go (here_or_not page cell other place) where
  before : NamesRow shape seen relation sequence pointer other
  before = names-back shape seen after one.names relation sequence pointer other row

  go : IsPlace page cell other place ⊎ ¬ IsPlace page cell other place → Claim relation sequence pointer other
  go (inr differ) = each relation sequence pointer other place top before (sym (one.others other place differ) ∙ stands) such
  go (inl at_it) =
      subst (Claim relation sequence pointer) (sym at_it.0)
      (here (subst IsSuch (is_new one other place top at_it stands) such) relation sequence pointer (subst (NamesRow shape seen relation sequence pointer) at_it.0 before))

module _ (at : Scene) (order : IsInOrder at) (owner page : ℕ) (made : Page) (seen : View) (stamps : ℕ → Stamps) (sees : SeesEdit at owner page seen stamps) where
  -- The newest header names the pointer pages that the view does.
  newest-pointer : (relation sequence pointer : ℕ) → pointer_of seen relation sequence ≡ Some pointer → pointer_of (newest_at at) relation sequence ≡ Some pointer
  newest-pointer relation sequence pointer pointed = go (sees.each 0) where
    go : IsSeenNewest at 0 (seen 0) (stamps 0) ⊎ IsSeenKept at 0 (seen 0) (stamps 0) → pointer_of (newest_at at) relation sequence ≡ Some pointer
    go (inl shown) = subst (λ (o : Option Page). pointer_of (λ q. o) relation sequence ≡ Some pointer) shown.page pointed
    go (inr shown) = pointer-grown (at.world.kept 0) (newest_at at 0) order.upheld.headers relation sequence pointer (subst (λ (o : Option Page). pointer_of (λ q. o) relation sequence ≡ Some pointer) shown.page pointed)

  module _ (cell : ℕ) (content : Cell) (g : GuardOfEdit at owner page (PutCell cell content)) (relation sequence pointer : ℕ) (row : NamesRow at.shape seen relation sequence pointer page) where
    p : IsPutPage at owner page cell content
    p = put-page at owner page cell content g

    -- By the guard the page is named, or drafted by who edits it.
    pub own-named : IsNamedOrDrafted at owner relation sequence pointer page
    own-named = by (both_of ((p.data_page.page == page) && (p.data_page.relation == relation)) (p.data_page.sequence == sequence) role) where
      sound : IsSound seen
      sound = seen-sound at owner page seen stamps sees order.upheld

      role : ((p.data_page.page == page) && (p.data_page.relation == relation)) && (p.data_page.sequence == sequence) ≡ true
      role = subst (λ (o : Option Page). shows_role (DataRole relation sequence) page o ≡ true) (sees.edited_page.page ∙ p.stands)
          (sound.fitting (DataRole relation sequence) page (named-reached at.shape seen (seen-shape at owner page seen stamps sees order.upheld) sound relation sequence pointer page row.pointed row.named))

      from : IsNamedData at owner page relation sequence → IsNamedOrDrafted at owner relation sequence pointer page
      from named =
          let same : pointer ≡ named.pointer = same_Some pointer named.pointer (sym (newest-pointer relation (sequence / slots at.shape.size) pointer row.pointed) ∙ named.pointed) in
          subst (λ q. IsNamedOrDrafted at owner relation sequence q page) (sym same) (record { pointed = named.pointed_in_file; named = named.named_in_file })

      by : ((p.data_page.page == page) && (p.data_page.relation == relation) ≡ true) × (p.data_page.sequence == sequence ≡ true) → IsNamedOrDrafted at owner relation sequence pointer page
      by parts =
          let front = both_of (p.data_page.page == page) (p.data_page.relation == relation) parts.0 in
          from (subst (IsNamedData at owner page relation) (same_from_test p.data_page.sequence sequence parts.1)
          (subst (λ r. IsNamedData at owner page r p.data_page.sequence) (same_from_test p.data_page.relation relation front.1) p.named))

    module _ (other : ℕ) (t : Transaction) (is_open : HasOpen at other t) (own : content.number ≡ t.number) where
      -- A version of an open number is put by its owner.
      by-owner : (u : Transaction) → HasOpen at owner u → content.number ≡ u.number → IsNamedOrDrafted at other relation sequence pointer page
      by-owner u open_too its = go (owner == other) refl where
        go : (b : Bool) → owner == other ≡ b → IsNamedOrDrafted at other relation sequence pointer page
        go true same = subst (λ o. IsNamedOrDrafted at o relation sequence pointer page) (same_from_test owner other same) own-named
        go false apart = absurd (order.numbered.differ owner other u t (differ_from_test owner other apart) open_too is_open (sym its ∙ own))

      module _ (each : IsNamedFrom at seen) where
        -- The file names the row of a settled top.
        by-file : (old : Cell) → cell_at (newest_at at) page cell ≡ Some old → IsSettledTop at old → IsNamedOrDrafted at other relation sequence pointer page
        by-file old stands settled =
            let named : NamesRow at.shape at.world.kept relation sequence pointer page = each relation sequence pointer page cell old row (stands-seen at owner page seen stamps sees cell old stands) settled in
            record { pointed = inl named.pointed; named = inl named.named }

        new-named : IsPut at owner page cell content → is_top content.flag ≡ true → IsNamedOrDrafted at other relation sequence pointer page
        new-named (IsPut.first f) first = by-owner f.t f.open_is f.own
        new-named (IsPut.over_own f) first = by-owner f.t f.open_is f.own
        new-named (IsPut.over f) first = by-owner f.t f.open_is f.own
        new-named (IsPut.move f) first = absurd (let no : false ≡ true = ap (λ (v : Cell). is_top v.flag) (sym f.same) ∙ first in cc)
        new-named (IsPut.backout f) first = by-file f.old f.stands (f.over, inl f.linked)
        new-named (IsPut.cut f) first = by-file f.old f.stands (ap (λ (v : Cell). is_top v.flag) (sym f.same) ∙ first, inr f.settled.committed)

  module _ (each : IsNamedFrom at seen) (other : ℕ) (t : Transaction) (is_open : HasOpen at other t) (opens : OpensAreNamedIn at other t.number seen) where
    pub put-opens : (cell : ℕ) (content : Cell) → GuardOfEdit at owner page (PutCell cell content) → page_after at.shape at.world owner page (PutCell cell content) ≡ Some made → OpensAreNamedIn at other t.number (with_page seen page made)
    put-opens cell content g is =
        let was : IsStanding at page cell = standing at owner page cell content g.row in
        one-cell-holds at.shape (IsTopOf t.number) (IsNamedOrDrafted at other) seen (with_page seen page made) page cell was.old content (put-one at order owner page made seen stamps sees cell content was.old was.stands g is)
        (λ such relation sequence pointer row. new-named cell content g relation sequence pointer row other t is_open such.1 each g.row such.0) opens

    pub clear-opens : (cell : ℕ) → GuardOfEdit at owner page (ClearCell cell) → page_after at.shape at.world owner page (ClearCell cell) ≡ Some made → OpensAreNamedIn at other t.number (with_page seen page made)
    clear-opens cell g is =
        let was : IsOneCleared at order owner page made seen stamps sees cell = clear-one at order owner page made seen stamps sees cell g is in
        one-cell-holds at.shape (IsTopOf t.number) (IsNamedOrDrafted at other) seen (with_page seen page made) page cell was.old empty_cell was.one
        (λ such relation sequence pointer row. absurd (let no = such.0 in cc)) opens
