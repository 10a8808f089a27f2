use Rattle.fbc_runs.proofs.Replies.{run_of}
use Rattle.fbc_runs.proofs.runs.playable_commands_are_runs.Goals as goal

pub returns : goal.returns
returns c = run_of
