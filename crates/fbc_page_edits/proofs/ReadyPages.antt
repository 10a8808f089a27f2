-- What a page that is ready shows: it has its role, and nothing stands in it.
use Rattle.std.proofs.Common.{◌≡◌, ◌⊎◌, ℕ, zero, suc, true, nat_lt, Option, Some, None, replicate, slice_get, inl, inr, refl, sym, ap, ◌∙◌}
use Rattle.std.specs.Option.{option_and_then, unwrap_or}
use Rattle.std.proofs.lemmas.Option.{same_Some}
use Rattle.fbc_kinds.specs.declared.pages.Cell.{Cell}
use Rattle.fbc_kinds.specs.declared.pages.Page.{Page}
use Rattle.fbc_kinds.specs.declared.pages.Page.TheVariants as kind
use Rattle.fbc_kinds.specs.declared.pages.State.{State}
use Rattle.fbc_kinds.specs.declared.pages.State.TheVariants.{Active}
use Rattle.fbc_kinds.specs.declared.shapes.Shape.{Shape}
use Rattle.fbc_kinds.specs.DataSpelling.{empty_cell}
use Rattle.fbc_kinds.specs.Edits.{value_length}
use Rattle.fbc_kinds.specs.Limits.{cells, slots, tip_numbers}
use Rattle.fbc_kinds.specs.Reach.{DataRole, PointerRole, TipRole, shows_role}
use Rattle.fbc_kinds.specs.View.{View, cell_in, is_empty, named_in, state_in, unless_zero}
use Rattle.fbc_kinds.proofs.Tests.{test_of_same}
use Rattle.fbc_page_edits.specs.Facing.{HasNoVersion, IsReady}
use Rattle.fbc_page_edits.proofs.Fitted.{given_some}

-- An element of a list of equal ones is that one, or past the end.
replicated : {X : Type 0} (count place : ℕ) (x : X) → (slice_get (replicate count x) place ≡ Some x) ⊎ (slice_get (replicate count x) place ≡ None)
replicated zero place x = inr refl
replicated (suc count) zero x = inl refl
replicated (suc count) (suc place) x = replicated count place x

module _ (shape : Shape) (view : View) (number relation sequence : ℕ) where
  module _ (ready : IsReady shape view number 3 relation sequence) where
    pub ready_tip : view number ≡ Some (kind.Tip (record { page = number; sequence = sequence; states = replicate (tip_numbers shape.size) Active }))
    ready_tip = ready.stands ∙ sym ready.empty

    pub ready_tip_shown : shows_role (TipRole sequence) number (view number) ≡ true
    ready_tip_shown = rw (ready_tip, test_of_same number number refl, test_of_same sequence sequence refl) refl

    pub ready_tip_active : (place : ℕ) → unwrap_or (state_in (view number) place) Active ≡ Active
    ready_tip_active place = rw ready_tip (elim (replicated (tip_numbers shape.size) place Active) [
      | inl is ↦ ap (λ (o : Option State). unwrap_or o Active) is
      | inr none ↦ ap (λ (o : Option State). unwrap_or o Active) none
    ])

  module _ (ready : IsReady shape view number 4 relation sequence) where
    pub ready_pointer : view number ≡ Some (kind.Pointer (record { page = number; relation = relation; sequence = sequence; slots = replicate (slots shape.size) 0 }))
    ready_pointer = ready.stands ∙ ap Some (sym (given_some (nat_lt relation shape.count) _ _ ready.empty).1)

    pub ready_pointer_shown : shows_role (PointerRole relation sequence) number (view number) ≡ true
    ready_pointer_shown = rw (ready_pointer, test_of_same number number refl, test_of_same relation relation refl, test_of_same sequence sequence refl) refl

    pub ready_pointer_none : (slot : ℕ) → named_in (view number) slot ≡ None
    ready_pointer_none slot = rw ready_pointer (elim (replicated {X = ℕ} (slots shape.size) slot 0) [
      | inl is ↦ ap (option_and_then unless_zero) is
      | inr none ↦ ap (option_and_then unless_zero) none
    ])

  module _ (ready : IsReady shape view number 5 relation sequence) where
    pub ready_data : view number ≡ Some (kind.Data (record { page = number; relation = relation; sequence = sequence; cells = replicate (cells shape.size (value_length shape relation)) empty_cell }))
    ready_data = ready.stands ∙ ap Some (sym (given_some (nat_lt relation shape.count) _ _ ready.empty).1)

    pub ready_data_shown : shows_role (DataRole relation sequence) number (view number) ≡ true
    ready_data_shown = rw (ready_data, test_of_same number number refl, test_of_same relation relation refl, test_of_same sequence sequence refl) refl

    pub ready_data_empty : HasNoVersion view number
    ready_data_empty cell version there = elim (replicated (cells shape.size (value_length shape relation)) cell empty_cell) [
      | inl is ↦ ap (λ (v : Cell). is_empty v.flag) (same_Some version empty_cell (sym there ∙ ap (λ (o : Option Page). cell_in o cell) ready_data ∙ is))
      | inr none ↦ let no : Some version ≡ None = sym there ∙ ap (λ (o : Option Page). cell_in o cell) ready_data ∙ none in cc
    ]
