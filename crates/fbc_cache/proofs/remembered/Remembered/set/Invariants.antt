use Rattle.std.proofs.Common.{◌≡◌, ◌≤◌, map, take}
use Rattle.std.specs.Prelude.{vec_capacity}
use Rattle.fbc_kinds.specs.declared.pages.Relation.{Relation}
use Rattle.fbc_cache.proofs.remembered.Remembered.set.Given as goal

-- The lists of the entries so far, and room for eight.
abbrev pub invariant-loop-relation : goal.invariant-loop-relation
invariant-loop-relation l =
    (l.self-inside.relations.items ≡ map (λ (r : Relation). r.pointers) (take l.relation-index l.relations))
    × (8 ≤ vec_capacity l.self-inside.relations)
