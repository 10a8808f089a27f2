-- What an edit of what is no cell leaves of the pointer pages that its page names; and what empty pages show.
use Rattle.std.proofs.Common.{◌≡◌, ◌∙◌, ◌⊎◌, ℕ, Bool, zero, suc, true, false, inl, inr, List, Option, Some, None, refl, sym, ap, replicate, slice_get}
use Rattle.std.specs.Prelude.{option_and_then}
use Rattle.std.proofs.lemmas.Option.{same_Some}
use Rattle.fbc_kinds.specs.declared.edits.Edit.{Edit}
use Rattle.fbc_kinds.specs.declared.edits.Edit.TheVariants as edit
use Rattle.fbc_kinds.specs.declared.pages.Cell.{Cell}
use Rattle.fbc_kinds.specs.declared.pages.Header.{Header}
use Rattle.fbc_kinds.specs.declared.pages.Page.{Page}
use Rattle.fbc_kinds.specs.declared.pages.Page.TheVariants as kind
use Rattle.fbc_kinds.specs.declared.pages.Relation.{Relation}
use Rattle.fbc_kinds.specs.declared.shapes.Shape.{Shape}
use Rattle.fbc_kinds.specs.DataSpelling.{empty_cell}
use Rattle.fbc_kinds.specs.Edits.{formatted}
use Rattle.fbc_kinds.specs.View.{cell_in, is_empty, named_in, unless_zero}
use Rattle.fbc_page_edits.specs.Allowed.{Fits}
use Rattle.fbc_page_edits.proofs.Fitted.{ChangesHeader, adds_inventory, adds_tip, frees_mark, given_some, names_slot, raises_next, takes_mark, unnames_slot}
use Rattle.fbc_origins.proofs.RowsWritten.{pointer_by}

-- Whether an edit leaves all pointer pages of a header.
abbrev pub leaves_pointers : Edit → Bool
leaves_pointers (edit.AddPointer relation page) = false
leaves_pointers (edit.PutCell cell content) = false
leaves_pointers (edit.ClearCell cell) = false
leaves_pointers (edit.Format k page relation sequence) = false
leaves_pointers _ = true

-- A header with the same relations.
same-relations : (old : Option Page) (content : Page) (before after : Header) → ChangesHeader old content before after → after.relations ≡ before.relations → (relation sequence : ℕ) → pointer_by (Some content) relation sequence ≡ pointer_by old relation sequence
same-relations old content before after changes same relation sequence =
    ap (λ (p : Page). pointer_by (Some p) relation sequence) (sym changes.made)
    ∙ ap (λ (rs : List Relation). option_and_then (λ (r : Relation). slice_get r.pointers sequence) (slice_get rs relation)) same
    ∙ sym (ap (λ (o : Option Page). pointer_by o relation sequence) changes.stands)

pub pointers-left : (shape : Shape) (e : Edit) (before : Option Page) (content : Page) → leaves_pointers e ≡ true → Fits shape e before content → (relation sequence : ℕ) → pointer_by (Some content) relation sequence ≡ pointer_by before relation sequence
pointers-left shape (edit.SetNext next) before content left fits relation sequence = same-relations before content _ _ (raises_next shape next before content fits).changes refl relation sequence
pointers-left shape (edit.AddTip page) before content left fits relation sequence = same-relations before content _ _ (adds_tip shape page before content fits).changes refl relation sequence
pointers-left shape edit.AddInventory before content left fits relation sequence = same-relations before content _ _ (adds_inventory shape before content fits).changes refl relation sequence
pointers-left shape (edit.TakePage page) before content left fits relation sequence = let r = takes_mark shape page before content fits in rw (r.stands, ← r.made) refl
pointers-left shape (edit.FreePage page) before content left fits relation sequence = let r = frees_mark shape page before content fits in rw (r.stands, ← r.made) refl
pointers-left shape (edit.Name slot page) before content left fits relation sequence = let r = names_slot shape slot page before content fits in rw (r.stands, ← r.made) refl
pointers-left shape (edit.Unname slot) before content left fits relation sequence = let r = unnames_slot shape slot before content fits in rw (r.stands, ← r.made) refl
pointers-left shape (edit.Mark number state) (Some (kind.Tip tip)) content left fits relation sequence = let r = given_some _ _ content fits in rw (← r.1) refl
pointers-left shape (edit.Mark number state) None content left fits relation sequence = absurd fits
pointers-left shape (edit.Mark number state) (Some _) content left fits relation sequence = cc
pointers-left shape (edit.AddPointer other page) before content left fits relation sequence = cc
pointers-left shape (edit.PutCell place new) before content left fits relation sequence = cc
pointers-left shape (edit.ClearCell place) before content left fits relation sequence = cc
pointers-left shape (edit.Format k page other place) before content left fits relation sequence = cc

-- An element of a list of equal ones is that one, or past the end.
one-of : {X : Type 0} (count place : ℕ) (x : X) → (slice_get (replicate count x) place ≡ Some x) ⊎ (slice_get (replicate count x) place ≡ None)
one-of zero place x = inr refl
one-of (suc count) zero x = inl refl
one-of (suc count) (suc place) x = one-of count place x

-- The empty pointer page names no page.
pub empty-names : (shape : Shape) (number relation sequence : ℕ) (content : Page) → formatted shape 4 number relation sequence ≡ Some content → (slot : ℕ) → named_in (Some content) slot ≡ None
empty-names shape number relation sequence content is slot = rw (← (given_some _ _ content is).1) (elim (one-of {X = ℕ} _ slot 0) [
  | inl found ↦ ap (option_and_then unless_zero) found
  | inr none ↦ ap (option_and_then unless_zero) none
])

-- The empty data page has no version.
pub empty-holds : (shape : Shape) (number relation sequence : ℕ) (content : Page) → formatted shape 5 number relation sequence ≡ Some content → (cell : ℕ) (version : Cell) → cell_in (Some content) cell ≡ Some version
    → is_empty version.flag ≡ true
empty-holds shape number relation sequence content is cell version there = elim (one-of _ cell empty_cell) [
  | inl found ↦ ap (λ (v : Cell). is_empty v.flag) (same_Some version empty_cell (sym there ∙ ap (λ (p : Page). cell_in (Some p) cell) (sym (given_some _ _ content is).1) ∙ found))
  | inr none ↦ let no : Some version ≡ None = sym there ∙ ap (λ (p : Page). cell_in (Some p) cell) (sym (given_some _ _ content is).1) ∙ none in cc
]
