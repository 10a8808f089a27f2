use Rattle.std.proofs.Common.{sym, ap, ◌∙◌, slice_get, List}
use Rattle.fbc_kinds.specs.declared.pages.Relation.{Relation}
use Rattle.fbc_reach.proofs.namings.header_namings.Goals as goal

pub push_relations-requires-clause-each : goal.push_relations-requires-clause-each
push_relations-requires-clause-each c i relation stands =
    c.requires.header.relations i relation (sym (ap (λ (all : List Relation). slice_get all i) c.items-2.ensures) ∙ stands)
