-- A header has no more relations and pointer pages than are remembered.
use Rattle.std.proofs.Common.{◌≡◌, ◌≤◌, ℕ, zero, suc, List, [], ◌∷◌, length, Some, slice_get, refl}
use Rattle.std.specs.List.{AllByRecursion}
use Rattle.fbc_kinds.specs.declared.pages.Header.{Header}
use Rattle.fbc_kinds.specs.declared.pages.Relation.{Relation}
use Rattle.fbc_kinds.specs.HeaderSpelling.{IsHeader}
use Rattle.fbc_cache.specs.Remembered.{AreFew}

-- What is true at each place is true of all.
all-places : {X : Type 0} (P : X → Type 0) (xs : List X) → ((i : ℕ) (x : X) → slice_get xs i ≡ Some x → P x) → AllByRecursion P xs
all-places P [] at = tt
all-places P (x ∷ xs) at = (at zero x refl, all-places P xs (λ i y is. at (suc i) y is))

pub header-few : (size : ℕ) (header : Header) → IsHeader size header → AreFew header.relations
header-few size header is = record {
  few = is.relations_to;
  short = all-places (λ (r : Relation). length r.pointers ≤ 4) header.relations (λ i r there. (is.relations i r there).pointers_to);
}
