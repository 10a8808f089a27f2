use Rattle.fbc_downgrade.proofs.Fewer.{few-writes}
use Rattle.fbc_downgrade.proofs.laws.servings_take_few_writes.Goals as goal

pub returns : goal.returns
returns k c after callback pages count is all writes = few-writes callback c after pages count is all writes
