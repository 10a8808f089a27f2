use Rattle.std.proofs.Common.{Some, None}
use Rattle.fbc_runs.proofs.EndedReads.{begin_unread, change_unread, put_unread}
use Rattle.fbc_runs.proofs.ended.ended_owners_are_not_read.Goals as goal

pub returns : goal.returns
returns c living commits a m who none no_commit reads = record {
  insert = λ relation row value. put_unread living commits who none no_commit a m reads relation row (Some value);
  update = λ relation row value. change_unread living commits who none no_commit a m reads relation row (Some value);
  delete = λ relation row. change_unread living commits who none no_commit a m reads relation row None;
  begin = λ number. begin_unread living commits who none no_commit a m reads number;
}
