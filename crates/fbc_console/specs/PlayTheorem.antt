-- The play theorem for one transaction: its lines are the replies of the one-thread machine, and the file after it
-- means that machine.
use Rattle.std.specs.Prelude.{◌≡◌, ◌+◌, ◌++◌, ◌⊎◌, ℕ, List, [], ◌∷◌, map, fold, Option}
use Rattle.std.specs.Prelude.{Some as told, None as untold}
use Rattle.fbc_kinds.specs.declared.commands.Command.{Command}
use Rattle.fbc_kinds.specs.declared.commands.Command.TheVariants as command
use Rattle.fbc_kinds.specs.declared.replies.Reply.{Reply}
use Rattle.fbc_kinds.specs.declared.replies.Reply.TheVariants as reply
use Rattle.fbc_kinds.specs.Machine.{Machine, IsRun, empty, machine_step}
use Rattle.fbc_kinds.specs.View.{View}
use Rattle.fbc_kinds.specs.File.{IsSoundFile}
use Rattle.fbc_kinds.specs.Meaning.{MeanTheSame, meaning_of}
use Rattle.fbc_script.specs.declared.single.Step.{Step}
use Rattle.fbc_script.specs.declared.single.Step.TheVariants as step
use Rattle.fbc_console.specs.declared.transaction.Answer.{Answer}
use Rattle.fbc_console.specs.declared.transaction.Answer.TheVariants as answer
use Rattle.fbc_script.specs.declared.single.SingleTransaction.{SingleTransaction}
use Rattle.fbc_script.specs.declared.single.SingleTransaction.TheVariants.{Absent, Steps}
use Rattle.fbc_console.specs.Transaction.{answer_line}

-- The commands of the steps that follow so many inserts, and of the commit behind them: an insert puts the row of
-- its number among the inserts.
abbrev pub commands_after : ℕ → List Step → List Command
commands_after inserts [] = command.Commit 1 ∷ []
commands_after inserts (step.Insert text ∷ later) = command.Insert 1 0 inserts text ∷ commands_after (inserts + 1) later
commands_after inserts (step.Read row ∷ later) = command.Read 1 0 row ∷ commands_after inserts later

-- The commands of a transaction with these steps: attachment 1 begins with number 1, and all steps are over
-- relation 0.
abbrev pub commands_of : List Step → List Command
commands_of steps = command.Begin 1 1 ∷ commands_after 0 steps

-- The machine after these steps of one transaction, where it began without rows.
abbrev pub machine_of : List Step → Machine
machine_of steps = fold machine_step empty (commands_of steps)

-- The reply of the machine that an answer tells.
abbrev pub reply_of : Answer → Reply
reply_of answer.Ok = reply.Ok
reply_of (answer.Value value) = reply.Value value
reply_of answer.None = reply.None
reply_of (answer.Row row) = reply.Row row
reply_of (answer.Number number) = reply.Number number

-- The lines that tell answers, numbered from this line on.
abbrev pub answer_lines : ℕ → List Answer → List ℕ
answer_lines number [] = []
answer_lines number (first ∷ later) = answer_line number first ++ answer_lines (number + 1) later

-- Lines tell the machine's replies to the commands of these steps; before them the attach is answered, which is no
-- command.
pub record TellReplies (steps : List Step) (lines : List ℕ) : Type 0 where
  pub answers : List Answer
  pub run : IsRun empty (commands_of steps) (map reply_of answers) (machine_of steps)
  pub lines_are : lines ≡ answer_line 1 answer.Ok ++ answer_lines 2 answers

-- Bytes are a sound file that means a machine, where the device reaches so far.
pub record IsFileOf (reach : ℕ) (bytes : List ℕ) (machine : Machine) : Type 0 where
  pub view : View
  pub sound : IsSoundFile reach bytes view
  pub means : MeanTheSame (meaning_of view) machine

-- A device has a sound file that means a machine, if it tells its bytes.
abbrev pub HasFileOf : ℕ → Option (List ℕ) → Machine → Type 0
HasFileOf reach untold machine = Unit {0}
HasFileOf reach (told bytes) machine = IsFileOf reach bytes machine

-- A device has a sound file in which nothing of these steps stands, or all of them.
abbrev pub HasAllOrNothing : ℕ → Option (List ℕ) → List Step → Type 0
HasAllOrNothing reach now steps = HasFileOf reach now empty ⊎ HasFileOf reach now (machine_of steps)

-- Lines and what a device has are those of the play of one transaction: the lines tell the machine's replies, and
-- the device's file means that machine.
pub record IsTransactionPlay (reach : ℕ) (steps : List Step) (lines : List ℕ) (now : Option (List ℕ)) : Type 0 where
  pub replies : TellReplies steps lines
  pub file : HasFileOf reach now (machine_of steps)

-- The play of an empty script tells nothing, and the file means the machine without rows.
pub record IsEmptyPlay (reach : ℕ) (lines : List ℕ) (now : Option (List ℕ)) : Type 0 where
  pub nothing : lines ≡ []
  pub file : HasFileOf reach now empty

-- Lines and what a device has are those of a play over the fresh file.
abbrev pub IsPlayOf : ℕ → SingleTransaction → List ℕ → Option (List ℕ) → Type 0
IsPlayOf reach Absent lines now = IsEmptyPlay reach lines now
IsPlayOf reach (Steps steps) lines now = IsTransactionPlay reach steps lines now

-- Some of the lines of a play were told: they are a first part of lines that tell the machine's replies.
pub record TellSomeReplies (steps : List Step) (lines : List ℕ) : Type 0 where
  pub rest : List ℕ
  pub replies : TellReplies steps (lines ++ rest)

-- A play that did not come to its end has told some of its lines, and all or nothing of its steps stands.
pub record IsPartOfPlay (reach : ℕ) (steps : List Step) (lines : List ℕ) (now : Option (List ℕ)) : Type 0 where
  pub replies : TellSomeReplies steps lines
  pub file : HasAllOrNothing reach now steps
