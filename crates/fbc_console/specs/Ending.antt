-- How a call of the console ends: how far its command was carried out, what stands on the device, and what was told.
use Rattle.std.specs.Prelude.{◌≡◌, ◌⊎◌, ℕ, Bool, List, [], reverse, Option, Ok, Err}
use Rattle.std.specs.Global.{Global}
use Rattle.std.specs.declared.string.String.{String}
use Rattle.fbc_script.specs.declared.single.Step.{Step}
use Rattle.fbc_script.specs.declared.single.SingleTransaction.{SingleTransaction}
use Rattle.fbc_script.specs.declared.single.SingleTransaction.TheVariants.{Absent, Steps}
use Rattle.fbc_files.specs.declared.relations.NewRelation.{NewRelation}
use Rattle.fbc_console.specs.declared.statuses.Status.{Status}
use Rattle.fbc_console.specs.declared.statuses.Status.TheVariants as status
use Rattle.fbc_command_line.specs.declared.commands.Command.TheVariants as command
use Rattle.fbc_console.specs.Closing.{Outcome, EndsWith}
use Rattle.fbc_command_line.specs.Commands.{SpellsCommand, IsCommandLine}
use Rattle.fbc_console.specs.Checking.{IsCheckDone}
use Rattle.fbc_console.specs.Making.{IsCreateDone}
use Rattle.fbc_files.specs.Opening.{IsRecognised}
use Rattle.fbc_console.specs.Opening.{WhyNotOpened, IsFreshDevice, IsOtherDevice}
use Rattle.fbc_console.specs.Asking.{HasAsked, WhyNotAsked}
use Rattle.fbc_console.specs.Committing.{IsCommitted, Stands}
use Rattle.fbc_console.specs.PlayTheorem.{IsPlayOf, IsPartOfPlay}
use Rattle.fbc_console.specs.Transaction.{inserted, lines_before_commit, transcript, IsTold}

-- The lines that were told of a transaction: all of them where it is done, all but the last where the device failed, and the first ones where the sink failed or there was no memory. The line that answers commit is told only where the commit stands.
abbrev pub IsTransactionTold : Outcome → List Step → List ℕ → Option (List ℕ) → Option (List ℕ) → Type 0
IsTransactionTold (Ok done) steps told before now = told ≡ transcript steps
IsTransactionTold (Err status.DeviceFault) steps told before now = told ≡ lines_before_commit steps
IsTransactionTold (Err status.SinkFault) steps told before now = IsTold steps told ⊎ ((told ≡ transcript steps) × IsCommitted before now (inserted (reverse steps)))
IsTransactionTold (Err status.OutOfMemory) steps told before now = IsTold steps told
IsTransactionTold (Err _) steps told before now = ⊥

-- What was told and what stands is the play of the one-thread machine, or where it did not come to its end a part of it.
abbrev pub IsMachinePlay : ℕ → Outcome → SingleTransaction → List ℕ → Option (List ℕ) → Type 0
IsMachinePlay reach (Ok done) asked told now = IsPlayOf reach asked told now
IsMachinePlay reach (Err ended) (Steps steps) told now = IsPartOfPlay reach steps told now
IsMachinePlay reach (Err ended) Absent told now = ⊥

-- A transaction of these steps was played over the fresh file: these lines were told, and these pages stand.
pub record IsTransactionPlayed (outcome : Outcome) (steps : List Step) (told : List ℕ) (before now : Option (List ℕ)) : Type 0 where
  pub lines : IsTransactionTold outcome steps told before now
  pub stands : Stands outcome before now (inserted (reverse steps))

-- An empty script tells nothing and leaves the file.
pub record IsNothingPlayed (outcome : Outcome) (told : List ℕ) (before now : Option (List ℕ)) : Type 0 where
  pub well : outcome ≡ Ok tt
  pub silent : told ≡ []
  pub same : now ≡ before

-- What a script asks for was played.
abbrev pub IsPlayed : Outcome → SingleTransaction → List ℕ → Option (List ℕ) → Option (List ℕ) → Type 0
IsPlayed outcome Absent told before now = IsNothingPlayed outcome told before now
IsPlayed outcome (Steps steps) told before now = IsTransactionPlayed outcome steps told before now

-- Why no script was played over a file: it is refused; or it is recognised, and the source gives none that can be played; or it is another file than the fresh one.
pub data WhyNotPlayed (left file : Option (List ℕ)) (ended : Status) : Type 0 where
  fault : ended ≡ status.DeviceFault → WhyNotPlayed left file ended
  memory : ended ≡ status.OutOfMemory → WhyNotPlayed left file ended
  refused : WhyNotOpened ended file → WhyNotPlayed left file ended
  unasked : IsRecognised file → WhyNotAsked ended left → WhyNotPlayed left file ended
  other : (asked : SingleTransaction) → IsRecognised file → HasAsked left asked → IsOtherDevice file → ended ≡ status.Later → WhyNotPlayed left file ended

-- The fresh file was played over: it was what the script asks for, and what the machine does, however far a device reaches.
pub record IsFreshPlayed (outcome : Outcome) (asked : SingleTransaction) (told : List ℕ) (before now : Option (List ℕ)) : Type 0 where
  pub is : IsPlayed outcome asked told before now
  pub machine : (reach : ℕ) → IsMachinePlay reach outcome asked told now

-- `play` was carried out: nothing was played, told or changed, or what the script asks for was played over the fresh file.
pub data IsPlayDone (left before now : Option (List ℕ)) (outcome : Outcome) (told : List ℕ) : Type 0 where
  stopped : (ended : Status) → outcome ≡ Err ended → WhyNotPlayed left before ended → told ≡ [] → now ≡ before → IsPlayDone left before now outcome told
  played : (asked : SingleTransaction) → IsFreshDevice before → HasAsked left asked → IsFreshPlayed outcome asked told before now → IsPlayDone left before now outcome told

-- The words were carried out over a file on a device of this reach, or they are no command.
pub data IsCarriedOut (reach : ℕ) (words : List (String Global)) (left before now : Option (List ℕ)) (outcome : Outcome) (told : List ℕ) : Type 0 where
  no_command : (IsCommandLine words → ⊥) → outcome ≡ Err status.Usage → told ≡ [] → now ≡ before → IsCarriedOut reach words left before now outcome told
  no_memory : outcome ≡ Err status.OutOfMemory → told ≡ [] → now ≡ before → IsCarriedOut reach words left before now outcome told
  create : (size : ℕ) (relations : List NewRelation) → SpellsCommand words (command.Create size relations) → IsCreateDone size relations before now outcome told → IsCarriedOut reach words left before now outcome told
  validate : (json : Bool) → SpellsCommand words (command.Validate json) → IsCheckDone json reach before now outcome told → IsCarriedOut reach words left before now outcome told
  play : SpellsCommand words command.Play → IsPlayDone left before now outcome told → IsCarriedOut reach words left before now outcome told

-- How a call of the console ends.
pub record HasEnded (reach : ℕ) (words : List (String Global)) (left : Option (List ℕ)) (old new : List ℕ → Type 0) (before now : Option (List ℕ)) (status : Status) : Type 0 where
  pub outcome : Outcome
  pub told : List ℕ
  pub done : IsCarriedOut reach words left before now outcome told
  pub ends : EndsWith outcome old new told status
