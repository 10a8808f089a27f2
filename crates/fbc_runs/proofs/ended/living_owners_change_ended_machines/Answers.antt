use Rattle.std.proofs.Common.{Some, None}
use Rattle.fbc_runs.proofs.LivingOnes.{change_same, put_same}
use Rattle.fbc_runs.proofs.ended.living_owners_change_ended_machines.Goals as goal

pub returns : goal.returns
returns c living commits m who lives = record {
  insert = λ relation row value. put_same living commits who lives m relation row (Some value);
  update = λ relation row value first second. change_same living commits who lives m relation row (Some value) first second;
  delete = λ relation row first second. change_same living commits who lives m relation row None first second;
}
