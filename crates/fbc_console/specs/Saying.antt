-- Which lines a sink may have taken, by how a call ended.
use Rattle.std.specs.Prelude.{◌≤◌, ◌⊎◌, ℕ, List, [], length, take, reverse, Option, Result, Ok, Err}
use Rattle.fbc_outside.specs.Streams.{SinkTakes, SinkTakesSome}
use Rattle.fbc_script.specs.declared.single.Step.{Step}
use Rattle.fbc_console.specs.declared.statuses.Status.{Status}
use Rattle.fbc_console.specs.declared.statuses.Status.TheVariants as status
use Rattle.fbc_console.specs.Committing.{IsCommitted}
use Rattle.fbc_console.specs.Transaction.{inserted, step_lines, lines_before_commit, transcript, opening_lines, answer_line, IsTold}
use Rattle.fbc_console.specs.declared.transaction.Answer.TheVariants as answer

-- A text was written whole, or a first part of it where the sink failed, or nothing where there was no memory.
abbrev pub IsSaid : Result (Unit {0}) Status → (List ℕ → Type 0) → (List ℕ → Type 0) → List ℕ → Type 0
IsSaid (Ok done) old new text = SinkTakes old new text
IsSaid (Err status.SinkFault) old new text = SinkTakesSome old new text
IsSaid (Err status.OutOfMemory) old new text = SinkTakes old new []
IsSaid (Err _) old new text = ⊥

-- The lines that answer attach and begin were written, or a first part of them.
abbrev pub IsOpeningSaid : Result (Unit {0}) Status → (List ℕ → Type 0) → (List ℕ → Type 0) → Type 0
IsOpeningSaid (Ok done) old new = SinkTakes old new opening_lines
IsOpeningSaid (Err status.SinkFault) old new = SinkTakesSome old new opening_lines
IsOpeningSaid (Err status.OutOfMemory) old new = (SinkTakes old new []) ⊎ (SinkTakes old new (answer_line 1 answer.Ok))
IsOpeningSaid (Err _) old new = ⊥

-- A sink has taken a first part of the text that answers some of the steps.
pub record CutsSteps (old new : List ℕ → Type 0) (steps : List Step) : Type 0 where
  pub count : ℕ
  pub within : count ≤ length steps
  pub taken : SinkTakesSome old new (step_lines (reverse (take count steps)))

-- A sink has taken the lines that answer some of the steps.
pub record StopsSteps (old new : List ℕ → Type 0) (steps : List Step) : Type 0 where
  pub count : ℕ
  pub within : count ≤ length steps
  pub taken : SinkTakes old new (step_lines (reverse (take count steps)))

-- The lines of all steps were written, or those of some steps where the sink failed or there was no memory.
abbrev pub AreStepsSaid : Result (Unit {0}) Status → (List ℕ → Type 0) → (List ℕ → Type 0) → List Step → Type 0
AreStepsSaid (Ok done) old new steps = SinkTakes old new (step_lines (reverse steps))
AreStepsSaid (Err status.SinkFault) old new steps = CutsSteps old new steps
AreStepsSaid (Err status.OutOfMemory) old new steps = StopsSteps old new steps
AreStepsSaid (Err _) old new steps = ⊥

-- A sink has taken a first part of the text that answers a first part of the statements.
pub record IsCut (old new : List ℕ → Type 0) (steps : List Step) : Type 0 where
  pub text : List ℕ
  pub told : IsTold steps text
  pub taken : SinkTakesSome old new text

-- A sink has taken the lines that answer a first part of the statements.
pub record IsStopped (old new : List ℕ → Type 0) (steps : List Step) : Type 0 where
  pub text : List ℕ
  pub told : IsTold steps text
  pub taken : SinkTakes old new text

-- The lines up to the one before commit were written, or a first part of them.
abbrev pub IsFrontSaid : Result (Unit {0}) Status → (List ℕ → Type 0) → (List ℕ → Type 0) → List Step → Type 0
IsFrontSaid (Ok done) old new steps = SinkTakes old new (lines_before_commit steps)
IsFrontSaid (Err status.SinkFault) old new steps = IsCut old new steps
IsFrontSaid (Err status.OutOfMemory) old new steps = IsStopped old new steps
IsFrontSaid (Err _) old new steps = ⊥

-- The transcript was written whole, or a first part of it; where the device failed, all but the line that answers commit. That line is written only after the commit stands.
abbrev pub IsTransactionSaid : Result (Unit {0}) Status → (List ℕ → Type 0) → (List ℕ → Type 0) → List Step → Option (List ℕ) → Option (List ℕ) → Type 0
IsTransactionSaid (Ok done) old new steps before now = SinkTakes old new (transcript steps)
IsTransactionSaid (Err status.SinkFault) old new steps before now = IsCut old new steps ⊎ (SinkTakesSome old new (transcript steps) × IsCommitted before now (inserted (reverse steps)))
IsTransactionSaid (Err status.OutOfMemory) old new steps before now = IsStopped old new steps
IsTransactionSaid (Err status.DeviceFault) old new steps before now = SinkTakes old new (lines_before_commit steps)
IsTransactionSaid (Err _) old new steps before now = ⊥

-- The line that answers commit, which comes only after the pages were written.
abbrev pub IsCommitSaid : Result (Unit {0}) Status → (List ℕ → Type 0) → (List ℕ → Type 0) → List ℕ → Type 0
IsCommitSaid (Ok done) old new line = SinkTakes old new line
IsCommitSaid (Err status.SinkFault) old new line = SinkTakesSome old new line
IsCommitSaid (Err status.OutOfMemory) old new line = SinkTakes old new []
IsCommitSaid (Err status.DeviceFault) old new line = SinkTakes old new []
IsCommitSaid (Err _) old new line = ⊥
