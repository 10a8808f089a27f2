use Rattle.fbc_runs.proofs.FileEnds.{file_ends}
use Rattle.fbc_runs.proofs.ended.none_living_in_a_file.Goals as goal

pub returns : goal.returns
returns c view commits = file_ends view commits
