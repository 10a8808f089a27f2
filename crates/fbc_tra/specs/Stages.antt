-- What a begin and a commit keep between their calls.
use Rattle.std.specs.Prelude.{ℕ, Bool}
use Rattle.fbc_tra.specs.declared.beginning.BeginStage.{BeginStage}
use Rattle.fbc_tra.specs.declared.committing.CommitStage.{CommitStage}

-- Whether the lock of the own number is waited for, and how far the begin has come.
pub record BeginState : Type 0 where
  pub wait : Bool
  pub stage : BeginStage

-- The number that commits, and how far the commit has come.
pub record CommitState : Type 0 where
  pub number : ℕ
  pub stage : CommitStage
