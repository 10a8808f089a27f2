use Rattle.std.proofs.Common.{ap, ◌∙◌}
use Rattle.fbc_levels.specs.LockState.{LockState, wait_of}
use Rattle.fbc_world.specs.World.{world_of}
use Rattle.fbc_world.proofs.WorldLaws.{IsReplayed-world}
use Rattle.fbc_fit.proofs.LearntGrants.{fits-learnt}
use Rattle.fbc_fit.proofs.learning.looks_that_grant_fit.Goals as goal

pub returns : goal.returns
returns _ = λ shape file history owner c landed free fits. fits-learnt shape (world_of shape file history) owner c (ap (λ (s : LockState). wait_of s owner) (IsReplayed-world shape file history).locks_is ∙ free) fits
