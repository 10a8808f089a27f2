-- An orderly machine stays so where some of its open transactions end.
use Rattle.std.proofs.Common.{◌≡◌, ◌∙◌, ◌<◌, ◌⊎◌, inl, inr, ℕ, true, false, List, map, sym, ap, subst}
use Rattle.std.specs.Prelude.{Some}
use Rattle.std.proofs.lemmas.List.{length-map}
use Rattle.fbc_kinds.specs.declared.snapshots.Transaction.{Transaction}
use Rattle.fbc_kinds.specs.Machine.{Machine, committed_numbers, is_committed, is_held, is_open, is_rolled_back}
use Rattle.fbc_runs.specs.Orderly.{IsOpenAt, IsOrderly, MakersAreThere, NumbersDiffer, OpensStandInFront, OwnersDiffer, SnapshotsHoldCommits, StandsAt}
use Rattle.fbc_runs.proofs.CommittedNumbers.{committed_at, held_by_committed}
use Rattle.fbc_runs.proofs.Places.{map_at, mapped_at}

-- A change of transactions that ends some: numbers stay, what is open afterwards is unchanged, what was committed stays
-- so, and what was rolled back does.
pub record Ends (change : Transaction → Transaction) : Type 0 where
  pub number : (t : Transaction) → (change t).number ≡ t.number
  pub opens : (t : Transaction) → is_open (change t).standing ≡ true → change t ≡ t
  pub commits : (t : Transaction) → is_committed t.standing ≡ true → is_committed (change t).standing ≡ true
  pub stands : (t : Transaction) → is_rolled_back (change t).standing ≡ false → is_rolled_back t.standing ≡ false

module _ (change : Transaction → Transaction) (ends : Ends change) (machine : Machine) (orderly : IsOrderly machine) where
  abbrev changed : List Transaction
  changed = map change machine.transactions

  abbrev pub after : Machine
  after = record machine { transactions = changed }

  -- What stands afterwards stood before, with its number.
  pub record Stood (place : ℕ) (t : Transaction) : Type 0 where
    pub was : Transaction
    pub stands : StandsAt machine.transactions place was
    pub same : was.number ≡ t.number

  stood : (place : ℕ) (t : Transaction) → StandsAt changed place t → Stood place t
  stood place t stands =
      let from = mapped_at change machine.transactions place t stands.0 in
      record {
        was = from.item;
        stands = (from.at, ends.stands from.item (ap (λ (x : Transaction). is_rolled_back x.standing) from.same ∙ stands.1));
        same = sym (ends.number from.item) ∙ ap (λ (x : Transaction). x.number) from.same;
      }

  -- What is open afterwards was open before.
  was_open : (place : ℕ) (t : Transaction) → IsOpenAt changed place t → IsOpenAt machine.transactions place t
  was_open place t opens =
      let from = mapped_at change machine.transactions place t opens.0 in
      let one : from.item ≡ t = sym (ends.opens from.item (ap (λ (x : Transaction). is_open x.standing) from.same ∙ opens.1)) ∙ from.same in
      (from.at ∙ ap Some one, opens.1)

  still_committed : (n : ℕ) → is_held (committed_numbers machine.transactions) n ≡ true → is_held (committed_numbers changed) n ≡ true
  still_committed n held =
      let c = committed_at machine.transactions n held in
      held_by_committed changed n (record {
        place = c.place;
        maker = change c.maker;
        at = map_at change machine.transactions c.place c.maker c.at;
        committed = ends.commits c.maker c.committed;
        same = ends.number c.maker ∙ c.same;
      })

  numbers_after : NumbersDiffer changed
  numbers_after place other t u stands also same =
      let one = stood place t stands in
      let two = stood other u also in
      orderly.numbers place other one.was two.was one.stands two.stands (one.same ∙ same ∙ sym two.same)

  owners_after : OwnersDiffer changed
  owners_after place other t u opens also same = orderly.owners place other t u (was_open place t opens) (was_open other u also) same

  snapshots_after : SnapshotsHoldCommits changed
  snapshots_after place t opens = let before = orderly.snapshots place t (was_open place t opens) in (before.0, λ n held. more n (before.1 n held))
    where
      more : (n : ℕ) → (n ≡ t.number) ⊎ (is_held (committed_numbers machine.transactions) n ≡ true) → (n ≡ t.number) ⊎ (is_held (committed_numbers changed) n ≡ true)
      more n (inl same) = inl same
      more n (inr committed) = inr (still_committed n committed)

  makers_after : MakersAreThere after
  makers_after relation row v within = subst (λ n. v.maker < n) (sym (length-map machine.transactions change)) (orderly.makers relation row v within)

  front_after : OpensStandInFront after
  front_after relation row newer older v w t u whole opens within stands =
      let one = stood v.maker u stands in
      orderly.front relation row newer older v w t one.was whole (was_open w.maker t opens) within one.stands

  pub ends_orderly : IsOrderly after
  ends_orderly = record { numbers = numbers_after; owners = owners_after; snapshots = snapshots_after; makers = makers_after; front = front_after }
