-- A slot of a pointer page that names a page goes on to name it through an edit that may not unname that page.
use Rattle.std.proofs.Common.{◌≡◌, ◌≢◌, ◌∙◌, ◌==◌, ℕ, Bool, true, false, Option, Some, None, refl, sym, ap}
use Rattle.std.specs.Prelude.{option_and_then}
use Rattle.fbc_kinds.specs.declared.edits.Edit.{Edit}
use Rattle.fbc_kinds.specs.declared.edits.Edit.TheVariants as edit
use Rattle.fbc_kinds.specs.declared.pages.Page.{Page}
use Rattle.fbc_kinds.specs.declared.pages.Page.TheVariants as kind
use Rattle.fbc_kinds.specs.View.{named_in, unless_zero}
use Rattle.fbc_kinds.proofs.EditLimits.{slice_get-set_other}
use Rattle.fbc_kinds.proofs.Tests.{differ_from_test, same_from_test}
use Rattle.fbc_page_edits.specs.Allowed.{Fits}
use Rattle.fbc_page_edits.proofs.Fitted.{NamesSlot, names_slot, unnames_slot}
use Rattle.fbc_legal.specs.Leans.{LeansOn}
use Rattle.fbc_legal.specs.Rows.{IsEditOfRow}
use Rattle.fbc_legal.specs.Scene.{Scene, newest_at}
use Rattle.fbc_origins.proofs.OthersKeep.{slots-left}

-- What is put into another slot leaves this one.
other_slot : (old : Option Page) (slot number : ℕ) (content : Page) → NamesSlot old slot number content → (place : ℕ) → place ≢ slot → named_in (Some content) place ≡ named_in old place
other_slot old slot number content names place apart =
    ap (λ (p : Page). named_in (Some p) place) (sym names.made)
    ∙ ap (option_and_then unless_zero) (slice_get-set_other names.pointer.slots slot place number apart)
    ∙ sym (ap (λ (o : Option Page). named_in o place) names.stands)

module _ (at : Scene) (actor number : ℕ) (content : Page) (old : Option Page) (newest : old ≡ newest_at at number) (page : ℕ) (never_made : (page_kind carried relation sequence : ℕ) → LeansOn at actor number (edit.Format page_kind carried relation sequence) → IsEditOfRow at actor number (edit.Format page_kind carried relation sequence) → ⊥) where
  -- A slot that is empty names no page.
  filled : (place slot : ℕ) → place ≡ slot → IsEditOfRow at actor number (edit.Name slot page) → named_in old place ≡ Some page → ⊥
  filled place slot same empty named =
      let none : named_in old place ≡ None = ap (named_in old) same ∙ ap (λ (o : Option Page). named_in o slot) newest ∙ ap (option_and_then unless_zero) empty in
      let both : Some page ≡ None = sym named ∙ none in cc

  -- No slot that names the page is emptied by the edit.
  abbrev pub KeepsName : Edit → Type 0
  KeepsName e = (slot : ℕ) → e ≡ edit.Unname slot → named_in (newest_at at number) slot ≡ Some page → ⊥

  unnamed : (place slot : ℕ) → place ≡ slot → KeepsName (edit.Unname slot) → named_in old place ≡ Some page → ⊥
  unnamed place slot same kept named = kept slot refl (sym (ap (λ (o : Option Page). named_in o slot) newest) ∙ ap (named_in old) (sym same) ∙ named)

  pub slot-stays : (e : Edit) → KeepsName e → IsEditOfRow at actor number e → LeansOn at actor number e → Fits at.shape e old content → (place : ℕ) → named_in old place ≡ Some page → named_in (Some content) place ≡ Some page
  slot-stays (edit.Name slot named) kept row leans fits place is = go (place == slot) refl where
    go : (b : Bool) → place == slot ≡ b → named_in (Some content) place ≡ Some page
    go true same = absurd (filled place slot (same_from_test place slot same) row is)
    go false apart = other_slot old slot named content (names_slot at.shape slot named old content fits) place (differ_from_test place slot apart) ∙ is
  slot-stays (edit.Unname slot) kept row leans fits place is = go (place == slot) refl where
    go : (b : Bool) → place == slot ≡ b → named_in (Some content) place ≡ Some page
    go true same = absurd (unnamed place slot (same_from_test place slot same) kept is)
    go false apart = other_slot old slot 0 content (unnames_slot at.shape slot old content fits) place (differ_from_test place slot apart) ∙ is
  slot-stays (edit.Format page_kind carried relation sequence) kept row leans fits place is = absurd (never_made page_kind carried relation sequence leans row)
  slot-stays (edit.PutCell cell new) kept row leans fits place is = go old fits is where
    go : (o : Option Page) → Fits at.shape (edit.PutCell cell new) o content → named_in o place ≡ Some page → named_in (Some content) place ≡ Some page
    go (Some (kind.Pointer p)) fit named = cc
    go None fit named = cc
    go (Some _) fit named = cc
  slot-stays (edit.ClearCell cell) kept row leans fits place is = go old fits is where
    go : (o : Option Page) → Fits at.shape (edit.ClearCell cell) o content → named_in o place ≡ Some page → named_in (Some content) place ≡ Some page
    go (Some (kind.Pointer p)) fit named = cc
    go None fit named = cc
    go (Some _) fit named = cc
  slot-stays e kept row leans fits place is = ap (option_and_then unless_zero) (slots-left at.shape e old content refl fits place) ∙ is
