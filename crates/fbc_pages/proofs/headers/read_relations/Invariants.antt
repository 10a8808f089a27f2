use Rattle.std.proofs.Common.{◌≡◌, ℕ, Some, length}
use Rattle.std.specs.Prelude.{slice_get}
use Rattle.fbc_kinds.specs.declared.pages.Relation.{Relation}
use Rattle.fbc_kinds.specs.HeaderSpelling.{IsRead}
use Rattle.fbc_pages.proofs.headers.read_relations.Given as goal

abbrev pub invariant-loop-i : goal.invariant-loop-i
invariant-loop-i l = record {
  count : length l.relations.items ≡ l.i;
  relations : (j : ℕ) (r : Relation) → slice_get l.relations.items j ≡ Some r → IsRead l.bytes j r;
}
