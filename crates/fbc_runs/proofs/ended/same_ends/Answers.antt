use Rattle.fbc_runs.proofs.Ends.{other_commits_same, other_living_same}
use Rattle.fbc_runs.proofs.ended.same_ends.Goals as goal

pub returns-clause-commits : goal.returns-clause-commits
returns-clause-commits c living commits also m same = other_commits_same living commits also same m

pub returns-clause-living : goal.returns-clause-living
returns-clause-living c living others commits m same = other_living_same living others commits same m
