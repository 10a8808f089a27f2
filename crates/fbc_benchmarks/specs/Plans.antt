use Rattle.std.specs.Prelude.{◌≡◌, ◌+◌, ◌≤◌, ◌<◌, ℕ, Bool, true, List, Some, length, slice_get}
use Rattle.fbc_kinds.specs.HeaderSpelling.{IsFileShape}
use Rattle.fbc_benchmarks.specs.declared.plans.Plan.{Plan}

-- A plan of a file whose data pages the pointer pages of all relations can name.
pub record IsPlan (plan : Plan) : Type 0 where
  pub shape : IsFileShape plan.shape
  pub data_pages : plan.data_pages ≤ 130944

-- Marks of which at least the first are set.
pub record AreTakenFirst (taken free : ℕ) (marks : List Bool) : Type 0 where
  pub count : length marks ≡ taken + free
  pub first : (i : ℕ) → i < taken → slice_get marks i ≡ Some true
