use Rattle.fbc_benchmarks.proofs.files.edit.Goals as goal

pub apply-requires-clause-shape : goal.apply-requires-clause-shape
apply-requires-clause-shape c = record { size = c.requires.plan.shape.size; count = c.requires.plan.shape.count_to }
