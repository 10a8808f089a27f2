use Rattle.std.proofs.Common.{ap, ◌∙◌}
use Rattle.fbc_levels.specs.LockState.{LockState, wait_of}
use Rattle.fbc_world.specs.declared.events.Act.TheVariants as act
use Rattle.fbc_world.specs.World.{world_of}
use Rattle.fbc_world.proofs.WorldLaws.{IsReplayed-world}
use Rattle.fbc_legal.proofs.Induction.{requests_true}
use Rattle.fbc_fit.proofs.LearntGrants.{fits-learnt}
use Rattle.fbc_fit.proofs.OtherActs.{fits-acted}
use Rattle.fbc_fit.proofs.WithdrawnPages.{fits-withdrawn}
use Rattle.fbc_fit.proofs.learning.withdrawals_fit.Goals as goal

pub returns-clause-withdrawn : goal.returns-clause-withdrawn
returns-clause-withdrawn _ = λ shape file history owner c wait landed waits pages is fits.
    let waiting = ap (λ (s : LockState). wait_of s owner) (IsReplayed-world shape file history).locks_is ∙ waits in
    fits-withdrawn shape (world_of shape file history) owner landed c wait waiting (pages wait waiting) (requests_true shape file history) is fits

pub returns-clause-granted : goal.returns-clause-granted
returns-clause-granted _ = λ shape file history owner c landed none fits.
    let free = ap (λ (s : LockState). wait_of s owner) (IsReplayed-world shape file history).locks_is ∙ none in
    fits-acted shape (world_of shape file history) owner landed _ act.Withdraw free (fits-learnt shape (world_of shape file history) owner c free fits)
