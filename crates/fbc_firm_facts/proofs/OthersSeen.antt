-- What an owner sees of a row stays, whatever another one asks of the machine.
use Rattle.std.proofs.Common.{◌≡◌, ◌≢◌, ◌∙◌, ℕ, Bool, true, false, List, [], ◌∷◌, All, Some, None, refl, sym, ap}
use Rattle.std.proofs.lemmas.List.Elements.{All-head, All-tail}
use Rattle.fbc_kinds.specs.declared.commands.Command.{Command}
use Rattle.fbc_kinds.specs.declared.commands.Command.TheVariants as command
use Rattle.fbc_kinds.specs.declared.snapshots.Standing.TheVariants as standing
use Rattle.fbc_kinds.specs.declared.snapshots.Transaction.{Transaction}
use Rattle.fbc_kinds.specs.Machine.{Machine, MayCome, after_end, machine_step, seen_by}
use Rattle.fbc_kinds.proofs.Tests.{test_of_different, test_of_same}
use Rattle.fbc_runs.specs.Ended.{end_by, is_owner_of, settled_by}
use Rattle.fbc_runs.specs.Orderly.{IsOrderly}
use Rattle.fbc_runs.specs.Reading.{ReadsAs}
use Rattle.fbc_runs.specs.Runs.{MayAllCome, machine_after}
use Rattle.fbc_runs.proofs.EndedReads.{begin_unread, change_unread, put_unread}
use Rattle.fbc_runs.proofs.Ends.{ends_same}
use Rattle.fbc_runs.proofs.RowReads.{reads_itself}
use Rattle.fbc_runs.proofs.Steps.{step_orderly}
use Rattle.fbc_firm_facts.specs.Actors.{actor_of}
use Rattle.fbc_firm_facts.proofs.SeenAlike.{seen-alike}

-- A transaction of an owner. Of those that go on the owner alone counts.
abbrev transaction_for : ℕ → Transaction
transaction_for who = record { number = 0; owner = who; standing = standing.Open; snapshot = [] }

module _ (machine : Machine) (who relation row : ℕ) (orderly : IsOrderly machine) where
  abbrev living : List Transaction
  living = transaction_for who ∷ []

  lives : is_owner_of living who ≡ true
  lives = rw (test_of_same who who refl) refl

  module _ (actor : ℕ) (apart : actor ≢ who) where
    ends : is_owner_of living actor ≡ false
    ends = rw (test_of_different who actor (λ same. apart (sym same))) refl

    -- Where the others are at their ends, nothing is read of what one of them does.
    by_reading : (later : Machine) → IsOrderly later → ReadsAs (settled_by living (λ o. false) machine) (settled_by living (λ o. false) later) → seen_by later who relation row ≡ seen_by machine who relation row
    by_reading later orderly_later reads =
        sym (seen-alike living (λ o. false) later who orderly_later lives relation row)
        ∙ sym (reads.means.seen who relation row)
        ∙ seen-alike living (λ o. false) machine who orderly lives relation row

    -- One that ends comes to its end.
    by_end : (commit : Bool) → IsOrderly (after_end machine actor (end_by commit)) → seen_by (after_end machine actor (end_by commit)) who relation row ≡ seen_by machine who relation row
    by_end commit orderly_later =
        sym (seen-alike living (λ o. commit) (after_end machine actor (end_by commit)) who orderly_later lives relation row)
        ∙ ap (λ (m : Machine). seen_by m who relation row) (ends_same living actor ends (λ o. commit) (λ o. commit) (λ owner differ. refl) machine)
        ∙ seen-alike living (λ o. commit) machine who orderly lives relation row

  pub others-leave : (asked : Command) → MayCome machine asked → actor_of asked ≢ who → seen_by (machine_step machine asked) who relation row ≡ seen_by machine who relation row
  others-leave (command.Begin actor number) may apart =
      by_reading actor apart _ (step_orderly machine orderly (command.Begin actor number) may)
      (begin_unread living (λ o. false) actor (ends actor apart) refl (settled_by living (λ o. false) machine) machine (reads_itself _) number)
  others-leave (command.Insert actor r k value) may apart =
      by_reading actor apart _ (step_orderly machine orderly (command.Insert actor r k value) may)
      (put_unread living (λ o. false) actor (ends actor apart) refl (settled_by living (λ o. false) machine) machine (reads_itself _) r k (Some value))
  others-leave (command.Update actor r k value) may apart =
      by_reading actor apart _ (step_orderly machine orderly (command.Update actor r k value) may)
      (change_unread living (λ o. false) actor (ends actor apart) refl (settled_by living (λ o. false) machine) machine (reads_itself _) r k (Some value))
  others-leave (command.Delete actor r k) may apart =
      by_reading actor apart _ (step_orderly machine orderly (command.Delete actor r k) may)
      (change_unread living (λ o. false) actor (ends actor apart) refl (settled_by living (λ o. false) machine) machine (reads_itself _) r k None)
  others-leave (command.Read actor r k) may apart = refl
  others-leave (command.Scan actor r) may apart = refl
  others-leave (command.Commit actor) may apart = by_end actor apart true (step_orderly machine orderly (command.Commit actor) may)
  others-leave (command.Rollback actor) may apart = by_end actor apart false (step_orderly machine orderly (command.Rollback actor) may)
  others-leave (command.Kill actor) may apart = by_end actor apart false (step_orderly machine orderly (command.Kill actor) may)

-- Commands of one actor, one after the other.
pub all-leave : (machine : Machine) (commands : List Command) (actor who relation row : ℕ) → IsOrderly machine → MayAllCome machine commands → All (λ asked. actor_of asked ≡ actor) commands → actor ≢ who
    → seen_by (machine_after machine commands) who relation row ≡ seen_by machine who relation row
all-leave machine [] actor who relation row orderly may its apart = refl
all-leave machine (asked ∷ later) actor who relation row orderly may its apart =
    all-leave (machine_step machine asked) later actor who relation row (step_orderly machine orderly asked may.0) may.1 (All-tail (λ one. actor_of one ≡ actor) asked later its) apart
    ∙ others-leave machine who relation row orderly asked may.0 (λ same. apart (sym (All-head (λ one. actor_of one ≡ actor) asked later its) ∙ same))
