use Rattle.std.proofs.Common.{sym, ◌∙◌}
use Rattle.fbc_files.proofs.RelationTests.{AreNewRelations-tested, pass_tests-new}
use Rattle.fbc_files.proofs.relations.are_new_relations.Goals as goal

pub returns : goal.returns
returns c = (
  λ passes. AreNewRelations-tested c.args.relations.now (sym c.pass_tests.ensures ∙ passes),
  λ are. c.pass_tests.ensures ∙ pass_tests-new c.args.relations.now are,
)
