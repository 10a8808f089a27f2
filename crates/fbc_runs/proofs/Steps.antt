-- Every command that may come keeps a machine orderly.
use Rattle.std.proofs.Common.{◌≡◌, ◌∙◌, ◌||◌, ℕ, Bool, true, false, not, List, [], ◌∷◌, refl, sym, ap, subst, if◌then◌else◌}
use Rattle.std.specs.Prelude.{Option, Some, None, is_none, is_some}
use Rattle.std.proofs.lemmas.Option.{same_Some}
use Rattle.fbc_kinds.specs.declared.commands.Command.{Command}
use Rattle.fbc_kinds.specs.declared.commands.Command.TheVariants as command
use Rattle.fbc_kinds.specs.declared.snapshots.Standing.TheVariants as standing
use Rattle.fbc_kinds.specs.declared.snapshots.Transaction.{Transaction}
use Rattle.fbc_kinds.specs.Chain.{Version, see}
use Rattle.fbc_kinds.specs.Machine.{Machine, MayCome, after_begin, after_change, is_done, is_free_row, is_greater_number, is_held, is_held_by_open, is_open, is_open_of, machine_step, newest, open_place, open_transaction, standing_versions, with_version}
use Rattle.fbc_kinds.proofs.Heads.{both_pass}
use Rattle.fbc_runs.specs.Orderly.{IsOpenAt, IsOrderly}
use Rattle.fbc_runs.specs.Runs.{MayAllCome, machine_after}
use Rattle.fbc_runs.proofs.Begins.{begun_orderly, passes_at}
use Rattle.fbc_runs.proofs.Endings.{after_end_orderly}
use Rattle.fbc_runs.proofs.InFrontOfOpens.{open_of, same_at}
use Rattle.fbc_runs.proofs.Places.{found_at, placed_at}
use Rattle.fbc_runs.proofs.VersionPut.{put_orderly}

-- The newest version of a change that is done is held.
done_held : (snapshot : List ℕ) (versions : List Version) (version : Version) → is_done snapshot versions ≡ true → newest versions ≡ Some version → is_held snapshot version.number ≡ true
done_held snapshot [] version done is = cc
done_held snapshot (first ∷ older) version done is =
    ap (λ (v : Version). is_held snapshot v.number) (sym (same_Some first version is))
    ∙ (both_pass (is_some (see (first ∷ older) (is_held snapshot))) (is_held snapshot first.number) done).1

module _ (machine : Machine) (orderly : IsOrderly machine) where
  begin_orderly : (who number : ℕ) → is_greater_number machine.transactions number ≡ true → IsOrderly (after_begin machine who number)
  begin_orderly who number greater = go (open_transaction machine who) refl
    where
      go : (o : Option Transaction) → open_transaction machine who ≡ o → IsOrderly (after_begin machine who number)
      go None none = rw none (begun_orderly machine orderly who number greater none)
      go (Some t) is = rw is orderly

  -- The place of an owner's open transaction.
  own_place : (who place : ℕ) → open_place machine who ≡ Some place → (t : Transaction) × IsOpenAt machine.transactions place t × (t.owner ≡ who)
  own_place who place is =
      let found = placed_at (is_open_of who) machine.transactions place is in
      let of = open_of who found.0 found.1.passes in
      (found.0, (found.1.at, of.0), of.1)

  -- A version of the owner's in front of a row whose newest version its snapshot holds.
  with_own_orderly : (who relation row : ℕ) (value : Option (List ℕ))
      → ((place : ℕ) (t : Transaction) (version : Version) → IsOpenAt machine.transactions place t → t.owner ≡ who → newest (standing_versions machine relation row) ≡ Some version → is_held t.snapshot version.number ≡ true)
      → (o : Option ℕ) → open_place machine who ≡ o → IsOrderly (with_version machine o relation row value)
  with_own_orderly who relation row value held None is = orderly
  with_own_orderly who relation row value held (Some place) is =
      let own = own_place who place is in
      put_orderly machine orderly place own.0 own.1 relation row value (λ version newest_is. held place own.0 version own.1 own.2 newest_is)

  -- An open snapshot holds what every one holds.
  held_by_each : (number place : ℕ) (t : Transaction) → is_held_by_open machine.transactions number ≡ true → IsOpenAt machine.transactions place t → is_held t.snapshot number ≡ true
  held_by_each number place t all opens = go (is_open t.standing) opens.1 (passes_at (λ (u : Transaction). not (is_open u.standing) || is_held u.snapshot number) machine.transactions place t all opens.0)
    where
      go : (b : Bool) → b ≡ true → (not b || is_held t.snapshot number) ≡ true → is_held t.snapshot number ≡ true
      go true is passes = passes
      go false is passes = cc

  free_held : (place : ℕ) (t : Transaction) (o : Option Version) (version : Version) → is_free_row machine.transactions o ≡ true → IsOpenAt machine.transactions place t → o ≡ Some version → is_held t.snapshot version.number ≡ true
  free_held place t None version free opens is = cc
  free_held place t (Some first) version free opens is =
      let all = (both_pass (is_none first.value) (is_held_by_open machine.transactions first.number) free).1 in
      ap (λ (v : Version). is_held t.snapshot v.number) (sym (same_Some first version is)) ∙ held_by_each first.number place t all opens

  insert_orderly : (who relation row : ℕ) (value : Option (List ℕ)) → is_free_row machine.transactions (newest (standing_versions machine relation row)) ≡ true → IsOrderly (with_version machine (open_place machine who) relation row value)
  insert_orderly who relation row value free =
      with_own_orderly who relation row value (λ place t version opens own is. free_held place t (newest (standing_versions machine relation row)) version free opens is) (open_place machine who) refl

  -- Two open transactions of one owner are one.
  one_open : (who place other : ℕ) (t u : Transaction) → IsOpenAt machine.transactions place t → t.owner ≡ who → IsOpenAt machine.transactions other u → u.owner ≡ who → t ≡ u
  one_open who place other t u opens own also same =
      same_at machine.transactions place other t u opens.0 also.0 (orderly.owners place other t u opens also (own ∙ sym same))

  done_orderly : (who relation row : ℕ) (value : Option (List ℕ)) (t : Transaction) → open_transaction machine who ≡ Some t → is_done t.snapshot (standing_versions machine relation row) ≡ true
      → IsOrderly (with_version machine (open_place machine who) relation row value)
  done_orderly who relation row value t found done = with_own_orderly who relation row value held (open_place machine who) refl
    where
      held : (place : ℕ) (u : Transaction) (version : Version) → IsOpenAt machine.transactions place u → u.owner ≡ who → newest (standing_versions machine relation row) ≡ Some version → is_held u.snapshot version.number ≡ true
      held place u version opens own is =
          let at = found_at (is_open_of who) machine.transactions t found in
          let of = open_of who t at.1.passes in
          let one : t ≡ u = one_open who at.0 place t u (at.1.at, of.0) of.1 opens own in
          subst (λ (x : Transaction). is_held x.snapshot version.number ≡ true) one (done_held t.snapshot (standing_versions machine relation row) version done is)

  change_orderly : (who relation row : ℕ) (value : Option (List ℕ)) (o : Option Transaction) → open_transaction machine who ≡ o → IsOrderly (after_change machine who relation row value o)
  change_orderly who relation row value None found = orderly
  change_orderly who relation row value (Some t) found = go (is_done t.snapshot (standing_versions machine relation row)) refl
    where
      go : (b : Bool) → is_done t.snapshot (standing_versions machine relation row) ≡ b → IsOrderly (if b then with_version machine (open_place machine who) relation row value else machine)
      go true done = done_orderly who relation row value t found done
      go false fails = orderly

  pub step_orderly : (asked : Command) → MayCome machine asked → IsOrderly (machine_step machine asked)
  step_orderly (command.Begin who number) may = begin_orderly who number may
  step_orderly (command.Insert who relation row value) may = insert_orderly who relation row (Some value) may
  step_orderly (command.Update who relation row value) may = change_orderly who relation row (Some value) (open_transaction machine who) refl
  step_orderly (command.Delete who relation row) may = change_orderly who relation row None (open_transaction machine who) refl
  step_orderly (command.Read who relation row) may = orderly
  step_orderly (command.Scan who relation) may = orderly
  step_orderly (command.Commit who) may = after_end_orderly machine orderly who standing.Committed refl
  step_orderly (command.Rollback who) may = after_end_orderly machine orderly who standing.RolledBack refl
  step_orderly (command.Kill who) may = after_end_orderly machine orderly who standing.RolledBack refl

-- Commands one after the other do so too.
pub run_orderly : (machine : Machine) (commands : List Command) → IsOrderly machine → MayAllCome machine commands → IsOrderly (machine_after machine commands)
run_orderly machine [] orderly may = orderly
run_orderly machine (asked ∷ later) orderly may = run_orderly (machine_step machine asked) later (step_orderly machine orderly asked may.0) may.1
