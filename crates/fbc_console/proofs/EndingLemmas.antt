-- How the ends of the parts of a call make the end of the call.
use Rattle.std.proofs.Common.{◌≡◌, ℕ, List, [], Option, Some, None, Ok, Err, refl, sym, subst, arith, Bool, true, false, ◌⊎◌, inl, inr}
use Rattle.std.specs.Prelude.{reverse}
use Rattle.std.specs.Global.{Global}
use Rattle.std.specs.declared.string.String.{String}
use Rattle.fbc_script.specs.declared.single.Step.{Step}
use Rattle.fbc_script.specs.declared.single.SingleTransaction.{SingleTransaction}
use Rattle.fbc_script.specs.declared.single.SingleTransaction.TheVariants.{Absent, Steps}
use Rattle.fbc_files.specs.declared.relations.NewRelation.{NewRelation}
use Rattle.fbc_console.specs.declared.statuses.Status.{Status}
use Rattle.fbc_console.specs.declared.statuses.Status.TheVariants as status
use Rattle.fbc_command_line.specs.declared.commands.Command.{Command}
use Rattle.fbc_command_line.specs.declared.commands.Command.TheVariants as command
use Rattle.fbc_command_line.specs.Commands.{SpellsCommand, TellsCommand}
use Rattle.fbc_console.specs.Making.{IsCreateDone}
use Rattle.fbc_console.specs.Opening.{IsFreshDevice, IsOtherDevice, TellsFresh}
use Rattle.fbc_console.specs.Checking.{IsCheckDone}
use Rattle.fbc_console.specs.Asking.{HasAsked}
use Rattle.fbc_console.specs.Transaction.{inserted, lines_before_commit, transcript}
use Rattle.fbc_console.specs.Saying.{IsTransactionSaid}
use Rattle.fbc_console.specs.Committing.{IsCommitted, Stands}
use Rattle.fbc_console.specs.PlayTheorem.{TellReplies, HasAllOrNothing, IsPlayOf}
use Rattle.fbc_console.specs.Closing.{Outcome, Took, IsClosed}
use Rattle.fbc_console.specs.Ending.{IsTransactionTold, IsFreshPlayed, WhyNotPlayed, fault, memory, IsPlayDone, stopped, played, IsCarriedOut, no_command, validate, play, create, HasEnded}
use Rattle.fbc_console.proofs.FirstLines.{told_some}
use Rattle.fbc_console.proofs.ClosingLemmas.{takes_nothing, ends}

-- The lines that a transaction's sink took.
told_of : (outcome : Outcome) (a c : List ℕ → Type 0) (steps : List Step) (before now : Option (List ℕ)) → IsTransactionSaid outcome a c steps before now
    → (told : List ℕ) × IsTransactionTold outcome steps told before now × Took outcome a c told
told_of (Ok done) a c steps before now said = (transcript steps, refl, said)
told_of (Err status.SinkFault) a c steps before now (inl cut) = (cut.text, inl cut.told, cut.taken)
told_of (Err status.SinkFault) a c steps before now (inr (took, committed)) = (transcript steps, inr (refl, committed), took)
told_of (Err status.OutOfMemory) a c steps before now said = (said.text, said.told, said.taken)
told_of (Err status.DeviceFault) a c steps before now said = (lines_before_commit steps, refl, said)
told_of (Err _) a c steps before now said = let no : ⊥ = said in absurd no

pub transaction_played : (outcome : Outcome) (a c : List ℕ → Type 0) (steps : List Step) (before now : Option (List ℕ))
    → TellReplies steps (transcript steps)
    → ((reach : ℕ) → IsCommitted before now (inserted (reverse steps)) → IsPlayOf reach (Steps steps) (transcript steps) now)
    → ((reach : ℕ) → Stands outcome before now (inserted (reverse steps)) → HasAllOrNothing reach now steps)
    → IsTransactionSaid outcome a c steps before now → Stands outcome before now (inserted (reverse steps))
    → (told : List ℕ) × IsFreshPlayed outcome (Steps steps) told before now × Took outcome a c told
transaction_played outcome a c steps before now replies whole some said stands = go outcome stands some (told_of outcome a c steps before now said)
  where
    go : (ended : Outcome) → Stands ended before now (inserted (reverse steps)) → ((reach : ℕ) → Stands ended before now (inserted (reverse steps)) → HasAllOrNothing reach now steps)
        → ((told : List ℕ) × IsTransactionTold ended steps told before now × Took ended a c told) → (told : List ℕ) × IsFreshPlayed ended (Steps steps) told before now × Took ended a c told
    go (Ok done) stood some (told, lines, took) = (
      told,
      record {
        is = record { lines = lines; stands = stood };
        machine = λ reach. subst (λ text. IsPlayOf reach (Steps steps) text now) (sym lines) (whole reach stood);
      },
      took,
    )
    go (Err why) stood some (told, lines, took) = (
      told,
      record {
        is = record { lines = lines; stands = stood };
        machine = λ reach. record { replies = told_some (Err why) steps told before now replies lines; file = some reach stood };
      },
      took,
    )

pub nothing_played : (a : List ℕ → Type 0) (before : Option (List ℕ)) → ((reach : ℕ) → IsPlayOf reach Absent [] before)
    → (told : List ℕ) × IsFreshPlayed (Ok tt) Absent told before before × Took (Ok tt) a a told
nothing_played a before is = ([], record { is = record { well = refl; silent = refl; same = refl }; machine = is }, takes_nothing a)

pub ended : (reach : ℕ) (words : List (String Global)) (left before now : Option (List ℕ)) (a b c : List ℕ → Type 0) (outcome : Outcome) (last : Status)
    → ((told : List ℕ) × IsCarriedOut reach words left before now outcome told × Took outcome a b told)
    → IsClosed outcome b c last → HasEnded reach words left a c before now last
ended reach words left before now a b c outcome last (told, done, took) closed =
    record { outcome = outcome; told = told; done = done; ends = ends outcome a b c told last took closed }

-- Where nothing is written, nothing is taken.
pub took_nothing : (outcome : Outcome) (a : List ℕ → Type 0) → Took outcome a a []
took_nothing (Err status.SinkFault) a = λ text had. (0, omega arith, takes_nothing a text had)
took_nothing (Ok done) a = takes_nothing a
took_nothing (Err _) a = takes_nothing a

pub not_played : (left before now : Option (List ℕ)) (a : List ℕ → Type 0) (ended : Status) → WhyNotPlayed left before ended → now ≡ before
    → (told : List ℕ) × IsPlayDone left before now (Err ended) told × Took (Err ended) a a told
not_played left before now a ended why same = ([], stopped ended refl why refl same, took_nothing (Err ended) a)

-- What was found of a file that is as it was.
pub told_fresh : (fresh : Bool) (before file : Option (List ℕ)) → fresh ≡ true → file ≡ before → TellsFresh fresh file → IsFreshDevice before
told_fresh fresh before file is same tells = subst IsFreshDevice same (subst (λ (b : Bool). TellsFresh b file) is tells)

pub told_other : (fresh : Bool) (before file : Option (List ℕ)) → fresh ≡ false → file ≡ before → TellsFresh fresh file → IsOtherDevice before
told_other fresh before file is same tells = subst IsOtherDevice same (subst (λ (b : Bool). TellsFresh b file) is tells)

pub was_played : (left before file now : Option (List ℕ)) (a c : List ℕ → Type 0) (outcome : Outcome) (asked : SingleTransaction) → IsFreshDevice before → HasAsked left asked → file ≡ before
    → ((told : List ℕ) × IsFreshPlayed outcome asked told file now × Took outcome a c told)
    → (told : List ℕ) × IsPlayDone left before now outcome told × Took outcome a c told
was_played left before file now a c outcome asked fresh has same (told, is, took) =
    (told, played asked fresh has (subst (λ bytes. IsFreshPlayed outcome asked told bytes now) same is), took)

pub play_carried_out : (reach : ℕ) (words : List (String Global)) (left before now : Option (List ℕ)) (a c : List ℕ → Type 0) (outcome : Outcome) → SpellsCommand words command.Play
    → ((told : List ℕ) × IsPlayDone left before now outcome told × Took outcome a c told)
    → (told : List ℕ) × IsCarriedOut reach words left before now outcome told × Took outcome a c told
play_carried_out reach words left before now a c outcome spells (told, done, took) = (told, play spells done, took)

pub without_file : (left file : Option (List ℕ)) (ended : Status) → (ended ≡ status.DeviceFault) ⊎ (ended ≡ status.OutOfMemory) → WhyNotPlayed left file ended
without_file left file ended (inl is) = fault is
without_file left file ended (inr is) = memory is

pub create_carried_out : (reach : ℕ) (words : List (String Global)) (left before now : Option (List ℕ)) (a c : List ℕ → Type 0) (outcome : Outcome) (size : ℕ) (relations : List NewRelation) → SpellsCommand words (command.Create size relations)
    → ((told : List ℕ) × IsCreateDone size relations before now outcome told × Took outcome a c told)
    → (told : List ℕ) × IsCarriedOut reach words left before now outcome told × Took outcome a c told
create_carried_out reach words left before now a c outcome size relations spells (told, done, took) = (told, create size relations spells done, took)

-- What was found is this command.
pub told_command : (words : List (String Global)) (found : Option Command) (inner is : Command) → found ≡ Some inner → inner ≡ is → TellsCommand words found → SpellsCommand words is
told_command words found inner is found_is inner_is tells = subst (SpellsCommand words) inner_is (subst (TellsCommand words) found_is tells)

pub no_command_carried_out : (reach : ℕ) (words : List (String Global)) (left before : Option (List ℕ)) (a : List ℕ → Type 0) (found : Option Command) → found ≡ None → TellsCommand words found
    → (told : List ℕ) × IsCarriedOut reach words left before before (Err status.Usage) told × Took (Err status.Usage) a a told
no_command_carried_out reach words left before a found is tells = ([], no_command (subst (TellsCommand words) is tells) refl refl refl, takes_nothing a)

pub check_carried_out : (reach : ℕ) (words : List (String Global)) (left before now : Option (List ℕ)) (a c : List ℕ → Type 0) (outcome : Outcome) (json : Bool) → SpellsCommand words (command.Validate json)
    → ((told : List ℕ) × IsCheckDone json reach before now outcome told × Took outcome a c told)
    → (told : List ℕ) × IsCarriedOut reach words left before now outcome told × Took outcome a c told
check_carried_out reach words left before now a c outcome json spells (told, done, took) = (told, validate json spells done, took)
