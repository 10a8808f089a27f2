use Rattle.fbc_runs.proofs.Ends.{commit_same}
use Rattle.fbc_runs.proofs.ended.commits_of_ended.Goals as goal

pub returns : goal.returns
returns c t living commits also m none commit others = commit_same t living none commits also commit others m
