use Rattle.fbc_benchmarks.proofs.Lengths.{length_fits}
use Rattle.fbc_benchmarks.proofs.files.value_length.Goals as goal

pub returns-then-relation-shape-clause-limit : goal.returns-then-relation-shape-clause-limit
returns-then-relation-shape-clause-limit c = length_fits c.args.shape.now c.args.relation c.if-relation-shape.true c.requires
