-- The lengths of values in a shape.
use Rattle.std.proofs.Common.{◌≡◌, ◌<◌, ◌≤◌, ◌⊎◌, ℕ, length, arith, get_or, inl, inr}
use Rattle.std.specs.Prelude.{Some, None, slice_get, slice_index_or}
use Rattle.std.proofs.lemmas.List.{get_or_past}
use Rattle.std.proofs.lemmas.Option.{get_or_from_slice_get, slice_get_cases}
use Rattle.fbc_kinds.specs.declared.shapes.Shape.{Shape}
use Rattle.fbc_kinds.specs.HeaderSpelling.{IsFileShape}

-- The values of a relation have at most 200 bytes.
pub length_fits : (shape : Shape) (relation : ℕ) → relation < shape.count → IsFileShape shape → slice_index_or shape.lengths relation 0 ≤ 200
length_fits shape relation has is = go (slice_get_cases shape.lengths relation).1 where
  go : ((n : ℕ) × (relation < length shape.lengths) × (slice_get shape.lengths relation ≡ Some n) × (get_or shape.lengths relation n ≡ n)) ⊎ ((length shape.lengths ≤ relation) × (slice_get shape.lengths relation ≡ None))
      → slice_index_or shape.lengths relation 0 ≤ 200
  go (inl (n, _, at, _)) = rw (get_or_from_slice_get shape.lengths relation n 0 at) (is.lengths relation n has at).1
  go (inr (past, _)) = rw (get_or_past shape.lengths relation 0 past) (omega arith)
