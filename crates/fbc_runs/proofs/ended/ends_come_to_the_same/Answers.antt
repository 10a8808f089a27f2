use Rattle.fbc_runs.proofs.Ends.{ends_same}
use Rattle.fbc_runs.proofs.ended.ends_come_to_the_same.Goals as goal

pub returns : goal.returns
returns c living commits also m who none others = ends_same living who none commits also others m
