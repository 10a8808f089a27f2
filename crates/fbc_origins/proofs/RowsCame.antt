-- A row with a top that a view shows after an edit of what is no cell it showed before.
use Rattle.std.proofs.Common.{◌≡◌, ◌≢◌, ◌∙◌, ◌==◌, ◌⊎◌, ◌/◌, ◌%◌, ℕ, Bool, true, false, inl, inr, if◌then◌else◌, Option, Some, None, refl, sym, ap, subst, set, slice_get}
use Rattle.std.specs.Prelude.{option_and_then}
use Rattle.fbc_kinds.specs.declared.edits.Edit.{Edit}
use Rattle.fbc_kinds.specs.declared.pages.Cell.{Cell}
use Rattle.fbc_kinds.specs.declared.pages.Page.{Page}
use Rattle.fbc_kinds.specs.declared.shapes.Shape.{Shape}
use Rattle.fbc_kinds.specs.Limits.{slots}
use Rattle.fbc_kinds.specs.Reach.{PointerRole, ReachesPage}
use Rattle.fbc_kinds.specs.View.{View, cell_at, cell_in, is_empty, is_top, named_in, pointer_of, slot_in, unless_zero}
use Rattle.fbc_kinds.proofs.EditLimits.{slice_get-set_other, slice_get-set_same}
use Rattle.fbc_kinds.proofs.Tests.{differ_from_test, same_from_test}
use Rattle.fbc_page_edits.specs.Allowed.{Fits}
use Rattle.fbc_page_edits.specs.Edited.{with_page}
use Rattle.fbc_page_edits.proofs.Changed.{changed_elsewhere, read_alike}
use Rattle.fbc_page_edits.proofs.Fitted.{NamesSlot}
use Rattle.fbc_page_edits.proofs.SameVersions.{top_holds}
use Rattle.fbc_origins.specs.Owed.{leaves_cells}
use Rattle.fbc_origins.proofs.CellsAfter.{cells-left}
use Rattle.fbc_origins.specs.Rows.{NamesRow}
use Rattle.fbc_origins.proofs.NamesLeft.{leaves_pointers, pointers-left}
use Rattle.fbc_origins.proofs.OthersKeep.{leaves_slots, slots-left}
use Rattle.fbc_origins.proofs.RowsWritten.{pointer_by}

-- A view names the data page and shows the version in it.
pub record IsShownRow (shape : Shape) (seen : View) (relation sequence pointer page cell : ℕ) (top : Cell) : Type 0 where
  pub row : NamesRow shape seen relation sequence pointer page
  pub stands : cell_at seen page cell ≡ Some top

-- Each row with a top after the edit was one before it.
abbrev pub RowsCame : Shape → View → View → Type 0
RowsCame shape before after = (relation sequence pointer page cell : ℕ) (top : Cell) → IsShownRow shape after relation sequence pointer page cell top → is_top top.flag ≡ true → IsShownRow shape before relation sequence pointer page cell top

module _ (shape : Shape) (seen : View) (edited : ℕ) (content : Page) where
  abbrev now : View
  now = with_page seen edited content

  -- An edit that leaves cells.
  module _ (e : Edit) (leaves : leaves_cells e ≡ true) (fits : Fits shape e (seen edited) content) where
    stands-before : (page cell : ℕ) (top : Cell) → cell_at now page cell ≡ Some top → cell_at seen page cell ≡ Some top
    stands-before page cell top stands = sym (read_alike seen edited content (λ _ (o : Option Page). cell_in o cell) (cells-left shape e (seen edited) content leaves fits cell) page) ∙ stands

    pointed-before : leaves_pointers e ≡ true → (relation sequence : ℕ) → pointer_of now relation sequence ≡ pointer_of seen relation sequence
    pointed-before pointers relation sequence =
        read_alike seen edited content (λ _ (o : Option Page). pointer_by o relation sequence) (pointers-left shape e (seen edited) content pointers fits relation sequence) 0

    named-before : leaves_slots e ≡ true → (pointer slot : ℕ) → named_in (now pointer) slot ≡ named_in (seen pointer) slot
    named-before same pointer slot = read_alike seen edited content (λ _ (o : Option Page). named_in o slot) (ap (option_and_then unless_zero) (slots-left shape e (seen edited) content same fits slot)) pointer

    -- With slots and pointer pages it leaves all rows.
    pub left-came : leaves_pointers e ≡ true → leaves_slots e ≡ true → RowsCame shape seen now
    left-came pointers same relation sequence pointer page cell top shown first = record {
      row = record {
        pointed = sym (pointed-before pointers relation (sequence / slots shape.size)) ∙ shown.row.pointed;
        named = sym (named-before same pointer (sequence % slots shape.size)) ∙ shown.row.named;
      };
      stands = stands-before page cell top shown.stands;
    }

    -- A slot that it sets names nothing, or a page without a version.
    module _ (slot number : ℕ) (names : NamesSlot (seen edited) slot number content) where
      slot-after : (place : ℕ) → slot_in (Some content) place ≡ (if place == slot then Some number else slot_in (seen edited) place)
      slot-after place = ap (λ (p : Page). slot_in (Some p) place) (sym names.made) ∙ go (place == slot) refl where
        go : (b : Bool) → place == slot ≡ b → slice_get (set names.pointer.slots slot number) place ≡ (if b then Some number else slot_in (seen edited) place)
        go true is = ap (slice_get (set names.pointer.slots slot number)) (same_from_test place slot is) ∙ slice_get-set_same names.pointer.slots slot number names.within
        go false is = slice_get-set_other names.pointer.slots slot place number (differ_from_test place slot is) ∙ sym (ap (λ o. slot_in o place) names.stands)

      named-either : (pointer place page : ℕ) → named_in (now pointer) place ≡ Some page → (named_in (seen pointer) place ≡ Some page) ⊎ (unless_zero number ≡ Some page)
      named-either pointer place page named = go (pointer == edited) refl named where
        at_slot : (b : Bool) → option_and_then unless_zero (if b then Some number else slot_in (seen edited) place) ≡ Some page → (named_in (seen edited) place ≡ Some page) ⊎ (unless_zero number ≡ Some page)
        at_slot true is = inr is
        at_slot false is = inl is

        go : (b : Bool) → pointer == edited ≡ b → named_in (if b then Some content else seen pointer) place ≡ Some page → (named_in (seen pointer) place ≡ Some page) ⊎ (unless_zero number ≡ Some page)
        go true it is = rw (same_from_test pointer edited it) (at_slot (place == slot) (sym (ap (option_and_then unless_zero) (slot-after place)) ∙ is))
        go false other is = inl is

      pub slot-came : leaves_pointers e ≡ true → ((page : ℕ) → unless_zero number ≡ Some page → (cell : ℕ) (version : Cell) → cell_at seen page cell ≡ Some version → is_empty version.flag ≡ true) → RowsCame shape seen now
      slot-came pointers empty relation sequence pointer page cell top shown first = go (named-either pointer (sequence % slots shape.size) page shown.row.named) where
        there : cell_at seen page cell ≡ Some top
        there = stands-before page cell top shown.stands

        go : (named_in (seen pointer) (sequence % slots shape.size) ≡ Some page) ⊎ (unless_zero number ≡ Some page) → IsShownRow shape seen relation sequence pointer page cell top
        go (inl named) = record { row = record { pointed = sym (pointed-before pointers relation (sequence / slots shape.size)) ∙ shown.row.pointed; named = named }; stands = there }
        go (inr new) = absurd (let none : is_empty top.flag ≡ true = empty page new cell top there in let some : is_empty top.flag ≡ false = top_holds top.flag first in let no : true ≡ false = sym none ∙ some in cc)

    -- A pointer page that it adds names nothing.
    pub pointer-came : leaves_slots e ≡ true
        → ((relation sequence pointer : ℕ) → pointer_of now relation sequence ≡ Some pointer → (pointer_of seen relation sequence ≡ Some pointer) ⊎ ((slot : ℕ) → named_in (seen pointer) slot ≡ None)) → RowsCame shape seen now
    pointer-came same either relation sequence pointer page cell top shown first = go (either relation (sequence / slots shape.size) pointer shown.row.pointed) where
      named : named_in (seen pointer) (sequence % slots shape.size) ≡ Some page
      named = sym (named-before same pointer (sequence % slots shape.size)) ∙ shown.row.named

      go : (pointer_of seen relation (sequence / slots shape.size) ≡ Some pointer) ⊎ ((slot : ℕ) → named_in (seen pointer) slot ≡ None) → IsShownRow shape seen relation sequence pointer page cell top
      go (inl pointed) = record { row = record { pointed = pointed; named = named }; stands = stands-before page cell top shown.stands }
      go (inr none) = absurd (let no : None ≡ Some page = sym (none (sequence % slots shape.size)) ∙ named in cc)

  -- A page that is not reached, and is not the header, is neither a pointer page nor a data page of a row.
  pub unreached-came : edited ≢ 0 → ((relation sequence pointer page : ℕ) → NamesRow shape seen relation sequence pointer page → ReachesPage seen page) → ¬ ReachesPage seen edited → RowsCame shape seen now
  unreached-came some reaches off relation sequence pointer page cell top shown first =
      let header : now 0 ≡ seen 0 = changed_elsewhere seen edited content 0 (λ is. some (sym is)) in
      let pointed : pointer_of seen relation (sequence / slots shape.size) ≡ Some pointer = ap (λ (o : Option Page). pointer_by o relation (sequence / slots shape.size)) (sym header) ∙ shown.row.pointed in
      let pointer_apart : pointer ≢ edited = λ is. off (PointerRole relation (sequence / slots shape.size), pointed ∙ ap Some is) in
      let named : named_in (seen pointer) (sequence % slots shape.size) ≡ Some page = ap (λ (o : Option Page). named_in o (sequence % slots shape.size)) (sym (changed_elsewhere seen edited content pointer pointer_apart)) ∙ shown.row.named in
      let row : NamesRow shape seen relation sequence pointer page = record { pointed = pointed; named = named } in
      let page_apart : page ≢ edited = λ is. off (subst (ReachesPage seen) is (reaches relation sequence pointer page row)) in
      record { row = row; stands = ap (λ (o : Option Page). cell_in o cell) (sym (changed_elsewhere seen edited content page page_apart)) ∙ shown.stands }
