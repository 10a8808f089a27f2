use Rattle.fbc_runs.proofs.OwnersCommit.{commit_reads}
use Rattle.fbc_runs.proofs.reading.commits_keep_reading.Goals as goal

pub returns : goal.returns
returns c a b who reads front also first second = commit_reads a b who reads front also first second
