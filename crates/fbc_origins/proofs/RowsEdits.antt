-- In each view that sees an edit of what is no cell, each row with a top was there before.
use Rattle.std.proofs.Common.{◌≡◌, ◌∙◌, ◌==◌, ◌⊎◌, ◌*◌, ◌+◌, ℕ, Bool, true, false, inl, inr, if◌then◌else◌, length, Option, Some, None, refl, sym, ap, subst}
use Rattle.std.proofs.lemmas.Option.{same_Some}
use Rattle.fbc_kinds.specs.declared.edits.Edit.{Edit}
use Rattle.fbc_kinds.specs.declared.edits.Edit.TheVariants as edit
use Rattle.fbc_kinds.specs.declared.pages.Cell.{Cell}
use Rattle.fbc_kinds.specs.declared.pages.Page.{Page}
use Rattle.fbc_kinds.specs.declared.pages.Page.TheVariants as kind
use Rattle.fbc_kinds.specs.Limits.{slots}
use Rattle.fbc_kinds.specs.Reach.{DataRole}
use Rattle.fbc_kinds.specs.View.{View, cell_at, cell_in, is_empty, named_in, pointer_of, relation_of, unless_zero}
use Rattle.fbc_kinds.proofs.Tests.{same_from_test}
use Rattle.fbc_page_edits.specs.Allowed.{Fits}
use Rattle.fbc_page_edits.specs.Edited.{with_page}
use Rattle.fbc_page_edits.proofs.Fitted.{AddsPointer, NamesSlot, adds_pointer, names_slot, unnames_slot}
use Rattle.fbc_world.specs.World.{page_after}
use Rattle.fbc_legal.specs.Facts.{IsEmptyPage}
use Rattle.fbc_legal.specs.Guards.{GuardOfEdit}
use Rattle.fbc_legal.specs.Leans.{IsReady, LeansOn, NameLeans, PointerLeans}
use Rattle.fbc_legal.specs.Rows.{IsEditOfRow}
use Rattle.fbc_legal.specs.Scene.{Scene, newest_at}
use Rattle.fbc_legal.specs.Stamps.{Stamps}
use Rattle.fbc_closed_cuts.specs.Owed.{SeesEdit}
use Rattle.fbc_closed_cuts.specs.Upheld.{IsUpheld}
use Rattle.fbc_origins.proofs.NewestFits.{newest-fits}
use Rattle.fbc_origins.proofs.PutPages.{named-reached}
use Rattle.fbc_closed_cuts.proofs.LeansSeen.{lean-seen}
use Rattle.fbc_origins.proofs.Seeing.{seen-shape, seen-sound}
use Rattle.fbc_origins.proofs.NamesLeft.{empty-holds, empty-names}
use Rattle.fbc_origins.proofs.PointersCame.{pointer-either}
use Rattle.fbc_origins.proofs.RowsCame.{RowsCame, left-came, pointer-came, slot-came, unreached-came}
use Rattle.fbc_origins.proofs.RowsWritten.{pointer_by}

-- Whether an edit is one of a cell.
abbrev pub is_of_cell : Edit → Bool
is_of_cell (edit.PutCell cell content) = true
is_of_cell (edit.ClearCell cell) = true
is_of_cell _ = false

module _ (at : Scene) (u : IsUpheld at) (owner page : ℕ) (content : Page) (seen : View) (stamps : ℕ → Stamps) (sees : SeesEdit at owner page seen stamps) where
  abbrev now : View
  now = with_page seen page content

  -- What is ready is seen as empty.
  empty-seen : (number page_kind relation sequence : ℕ) → IsReady at owner page number page_kind relation sequence → IsEmptyPage at.shape page_kind number relation sequence (seen number) (stamps number)
  empty-seen number page_kind relation sequence ready = lean-seen at owner page seen stamps sees (IsEmptyPage at.shape page_kind number relation sequence) number ready.empty

  -- An added pointer page names nothing.
  module _ (relation number : ℕ) (leans : LeansOn at owner page (edit.AddPointer relation number)) (fits : Fits at.shape (edit.AddPointer relation number) (seen page) content) where
    adds : AddsPointer (seen page) relation number content
    adds = adds_pointer at.shape relation number (seen page) content fits

    none-named : 0 ≡ page → (slot : ℕ) → named_in (seen number) slot ≡ None
    none-named same slot =
        let header : newest_at at 0 ≡ Some (kind.Header adds.header) = ap (newest_at at) same ∙ sym sees.edited_page.page ∙ adds.changes.stands in
        let found : relation_of (newest_at at) relation ≡ Some adds.entry = rw header adds.entry_is in
        let ready : PointerLeans at owner page number relation (Some adds.entry) = subst (PointerLeans at owner page number relation) found leans in
        let empty = empty-seen number 4 relation (length adds.entry.pointers) ready.0 in
        ap (λ (o : Option Page). named_in o slot) empty.1 ∙ empty-names at.shape number relation (length adds.entry.pointers) empty.0 empty.2 slot

    pub pointers-came : (other sequence pointer : ℕ) → pointer_of now other sequence ≡ Some pointer → (pointer_of seen other sequence ≡ Some pointer) ⊎ ((slot : ℕ) → named_in (seen pointer) slot ≡ None)
    pointers-came other sequence pointer pointed = go (0 == page) refl pointed where
      go : (b : Bool) → 0 == page ≡ b → pointer_by (if b then Some content else seen 0) other sequence ≡ Some pointer → (pointer_of seen other sequence ≡ Some pointer) ⊎ ((slot : ℕ) → named_in (seen pointer) slot ≡ None)
      go false apart is = inl is
      go true it is =
          let same : 0 ≡ page = same_from_test 0 page it in
          elim (pointer-either (seen page) relation number content adds other sequence pointer is) [
            | inl was ↦ inl (ap (λ q. pointer_by (seen q) other sequence) same ∙ was)
            | inr new ↦ inr (λ slot. ap (λ q. named_in (seen q) slot) new ∙ none-named same slot)
          ]

  -- A data page that a slot names has no version.
  name-empty : (slot number : ℕ) → NamesSlot (seen page) slot number content → LeansOn at owner page (edit.Name slot number) → (named : ℕ) → unless_zero number ≡ Some named → (cell : ℕ) (version : Cell) → cell_at seen named cell ≡ Some version
      → is_empty version.flag ≡ true
  name-empty slot number names leans named is cell version stands =
      let shown : newest_at at page ≡ Some (kind.Pointer names.pointer) = sym sees.edited_page.page ∙ names.stands in
      let ready : NameLeans at owner page slot number (Some (kind.Pointer names.pointer)) = subst (NameLeans at owner page slot number) shown leans in
      let sequence = names.pointer.sequence * slots at.shape.size + slot in
      let empty = empty-seen number 5 names.pointer.relation sequence ready in
      empty-holds at.shape number names.pointer.relation sequence empty.0 empty.2 cell version (ap (λ (o : Option Page). cell_in o cell) (sym empty.1) ∙ ap (λ q. cell_at seen q cell) (one (number == 0) is) ∙ stands)
    where
      one : (b : Bool) → (if b then None else Some number) ≡ Some named → number ≡ named
      one true never = absurd cc
      one false same = same_Some number named same

  by_edit : (e : Edit) → is_of_cell e ≡ false → LeansOn at owner page e → IsEditOfRow at owner page e → Fits at.shape e (seen page) content → RowsCame at.shape seen now
  by_edit (edit.AddPointer relation number) plain leans row fits = pointer-came at.shape seen page content (edit.AddPointer relation number) refl fits refl (pointers-came relation number leans fits)
  by_edit (edit.Name slot number) plain leans row fits =
      let names = names_slot at.shape slot number (seen page) content fits in
      slot-came at.shape seen page content (edit.Name slot number) refl fits slot number names refl (name-empty slot number names leans)
  by_edit (edit.Unname slot) plain leans row fits =
      slot-came at.shape seen page content (edit.Unname slot) refl fits slot 0 (unnames_slot at.shape slot (seen page) content fits) refl (λ named never. absurd cc)
  by_edit (edit.Format page_kind number relation sequence) plain leans row fits =
      unreached-came at.shape seen page content row.no_header
      (λ other place pointer named is. (DataRole other place, named-reached at.shape seen (seen-shape at owner page seen stamps sees u) (seen-sound at owner page seen stamps sees u) other place pointer named is.pointed is.named))
      (sees.unreached page leans.nowhere row.no_header row.no_inventory)
  by_edit (edit.PutCell cell put) plain leans row fits = absurd cc
  by_edit (edit.ClearCell cell) plain leans row fits = absurd cc
  by_edit e plain leans row fits = left-came at.shape seen page content e refl fits refl refl

  pub rows-came : (e : Edit) → is_of_cell e ≡ false → GuardOfEdit at owner page e → page_after at.shape at.world owner page e ≡ Some content → RowsCame at.shape seen now
  rows-came e plain g is = by_edit e plain g.leans g.row (subst (λ o. Fits at.shape e o content) (sym sees.edited_page.page) (newest-fits at u.coherent owner page e content g is))
