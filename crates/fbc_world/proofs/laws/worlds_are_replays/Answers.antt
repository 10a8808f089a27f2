use Rattle.fbc_world.proofs.WorldLaws.{IsReplayed-world, newest-world}
use Rattle.fbc_world.proofs.laws.worlds_are_replays.Goals as goal

pub returns-clause-kept : goal.returns-clause-kept
returns-clause-kept c = λ shape file history. (IsReplayed-world shape file history).kept_is

pub returns-clause-draft : goal.returns-clause-draft
returns-clause-draft c = λ shape file history. (IsReplayed-world shape file history).draft_is

pub returns-clause-newest : goal.returns-clause-newest
returns-clause-newest c = newest-world

pub returns-clause-copy : goal.returns-clause-copy
returns-clause-copy c = λ shape file history. (IsReplayed-world shape file history).copy_is

pub returns-clause-granted : goal.returns-clause-granted
returns-clause-granted c = λ shape file history. (IsReplayed-world shape file history).granted_is

pub returns-clause-locks : goal.returns-clause-locks
returns-clause-locks c = λ shape file history. (IsReplayed-world shape file history).locks_is

pub returns-clause-pair : goal.returns-clause-pair
returns-clause-pair c = λ shape file history. (IsReplayed-world shape file history).pairs_is

pub returns-clause-alive : goal.returns-clause-alive
returns-clause-alive c = λ shape file history. (IsReplayed-world shape file history).alive_is
