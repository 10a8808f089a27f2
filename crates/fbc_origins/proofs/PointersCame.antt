-- Pointer pages that a header names after one more was added, and those that a header names on that has grown.
use Rattle.std.proofs.Common.{◌≡◌, ◌∙◌, ◌==◌, ◌⊎◌, ◌++◌, ◌∷◌, [], ℕ, Bool, true, false, inl, inr, Option, Some, None, refl, sym, ap, set, slice_get}
use Rattle.std.specs.Prelude.{option_and_then}
use Rattle.std.proofs.lemmas.Option.{same_Some, slice_get_within}
use Rattle.fbc_kinds.specs.declared.pages.Header.{Header}
use Rattle.fbc_kinds.specs.declared.pages.Page.{Page}
use Rattle.fbc_kinds.specs.declared.pages.Relation.{Relation}
use Rattle.fbc_kinds.specs.View.{header_in}
use Rattle.fbc_kinds.proofs.EditLimits.{slice_get-set_other, slice_get-set_same}
use Rattle.fbc_kinds.proofs.Tests.{differ_from_test, same_from_test}
use Rattle.fbc_page_edits.proofs.Fitted.{AddsPointer, pointing}
use Rattle.fbc_page_edits.proofs.Pushed.{IsNewPlace, pushed}
use Rattle.fbc_closed_cuts.specs.Growth.{GrowsInto}
use Rattle.fbc_origins.proofs.OthersKeep.{pointer-on}
use Rattle.fbc_origins.proofs.RowsWritten.{pointer_by}

-- The pointer page of a sequence in an entry of a header.
abbrev in_entry : ℕ → Option Relation → Option ℕ
in_entry sequence entry = option_and_then (λ (r : Relation). slice_get r.pointers sequence) entry

module _ (header : Header) (entry : Relation) (relation page : ℕ) (entry_is : slice_get header.relations relation ≡ Some entry) where
  -- In the entry that has one more.
  in_longer : (sequence pointer : ℕ) → slice_get (entry.pointers ++ page ∷ []) sequence ≡ Some pointer → (slice_get entry.pointers sequence ≡ Some pointer) ⊎ (pointer ≡ page)
  in_longer sequence pointer named = go (pushed entry.pointers page sequence) where
    go : (slice_get (entry.pointers ++ page ∷ []) sequence ≡ slice_get entry.pointers sequence) ⊎ IsNewPlace entry.pointers page sequence → (slice_get entry.pointers sequence ≡ Some pointer) ⊎ (pointer ≡ page)
    go (inl same) = inl (sym same ∙ named)
    go (inr is) = inr (same_Some pointer page (sym named ∙ is.new))

  in_header : (other sequence pointer : ℕ) → in_entry sequence (slice_get (set header.relations relation (pointing entry page)) other) ≡ Some pointer
      → (in_entry sequence (slice_get header.relations other) ≡ Some pointer) ⊎ (pointer ≡ page)
  in_header other sequence pointer named = go (other == relation) refl where
    go : (b : Bool) → other == relation ≡ b → (in_entry sequence (slice_get header.relations other) ≡ Some pointer) ⊎ (pointer ≡ page)
    go false is = inl (ap (in_entry sequence) (sym (slice_get-set_other header.relations relation other (pointing entry page) (differ_from_test other relation is))) ∙ named)
    go true is =
        let same : other ≡ relation = same_from_test other relation is in
        let here : slice_get (set header.relations relation (pointing entry page)) other ≡ Some (pointing entry page) =
        ap (slice_get (set header.relations relation (pointing entry page))) same ∙ slice_get-set_same header.relations relation (pointing entry page) (slice_get_within header.relations relation entry entry_is) in
        let was : slice_get header.relations other ≡ Some entry = ap (slice_get header.relations) same ∙ entry_is in
        elim (in_longer sequence pointer (sym (ap (in_entry sequence) here) ∙ named)) [ inl old ↦ inl (ap (in_entry sequence) was ∙ old) | inr new ↦ inr new ]

-- A pointer page that the header names after one was added it named before, or it is that one.
pub pointer-either : (old : Option Page) (relation page : ℕ) (content : Page) → AddsPointer old relation page content → (other sequence pointer : ℕ) → pointer_by (Some content) other sequence ≡ Some pointer
    → (pointer_by old other sequence ≡ Some pointer) ⊎ (pointer ≡ page)
pointer-either old relation page content adds other sequence pointer named =
    elim (in_header adds.header adds.entry relation page adds.entry_is other sequence pointer (ap (λ (p : Page). pointer_by (Some p) other sequence) adds.changes.made ∙ named)) [
      | inl was ↦ inl (ap (λ (o : Option Page). pointer_by o other sequence) adds.changes.stands ∙ was)
      | inr new ↦ inr new
    ]

-- A header that has grown names the pointer pages that it named.
pub pointer-grown : (earlier later : Option Page) → GrowsInto earlier later → (relation sequence pointer : ℕ) → pointer_by earlier relation sequence ≡ Some pointer → pointer_by later relation sequence ≡ Some pointer
pointer-grown earlier later grows relation sequence pointer is = go (header_in earlier) refl is where
  go : (o : Option Header) → header_in earlier ≡ o → option_and_then (λ (r : Relation). slice_get r.pointers sequence) (option_and_then (λ (h : Header). slice_get h.relations relation) o) ≡ Some pointer → pointer_by later relation sequence ≡ Some pointer
  go None none found = absurd cc
  go (Some header) some found =
      let more = grows header some in
      rw more.is (pointer-on header more.later more.grown relation sequence pointer found)
