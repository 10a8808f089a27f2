-- An orderly machine stays so where a transaction begins.
use Rattle.std.proofs.Common.{◌≡◌, ◌∙◌, ◌<◌, ◌+◌, ◌++◌, ◌==◌, ◌&&◌, ◌||◌, ◌⊎◌, inl, inr, ℕ, zero, suc, Bool, true, false, List, [], ◌∷◌, Contains, length, refl, sym, ap, subst, arith}
use Rattle.std.specs.Prelude.{Some, None, nat_lt, slice_get}
use Rattle.std.specs.List.{list_all}
use Rattle.std.proofs.lemmas.Bool.Decides.{nat_tests}
use Rattle.std.proofs.lemmas.List.{length-append}
use Rattle.std.proofs.lemmas.List.Elements.{Contains-append_left, Contains-append_right}
use Rattle.std.proofs.lemmas.Option.{same_Some}
use Rattle.fbc_kinds.specs.declared.snapshots.Transaction.{Transaction}
use Rattle.fbc_kinds.specs.Machine.{Machine, begun, committed_numbers, is_greater_number, is_held, is_open, is_open_of, is_rolled_back, open_transaction}
use Rattle.fbc_kinds.proofs.Tests.{same_from_test, test_of_same}
use Rattle.fbc_runs.specs.Orderly.{IsOpenAt, IsOrderly, MakersAreThere, NumbersDiffer, OpensStandInFront, OwnersDiffer, SnapshotsHoldCommits, StandsAt}
use Rattle.fbc_runs.proofs.CommittedNumbers.{committed_at, held_by_committed, one_passes}
use Rattle.fbc_kinds.proofs.Heads.{both_pass}
use Rattle.fbc_runs.proofs.Places.{PlaceOf, at_head, before_end, earlier, last, none_passes, place_of}

-- What passes for each passes at every place.
pub passes_at : (test : Transaction → Bool) (ts : List Transaction) (place : ℕ) (t : Transaction) → list_all test ts ≡ true → slice_get ts place ≡ Some t → test t ≡ true
passes_at test [] place t all at = cc
passes_at test (u ∷ ts) zero t all at = ap test (sym (same_Some u t at)) ∙ (both_pass (test u) (list_all test ts) all).0
passes_at test (u ∷ ts) (suc place) t all at = passes_at test ts place t (both_pass (test u) (list_all test ts) all).1 at

module _ (machine : Machine) (orderly : IsOrderly machine) (who number : ℕ) (greater : is_greater_number machine.transactions number ≡ true) (none : open_transaction machine who ≡ None) where
  abbrev new : Transaction
  new = begun machine who number

  abbrev longer : List Transaction
  longer = machine.transactions ++ new ∷ []

  abbrev pub after : Machine
  after = record { rows = machine.rows; transactions = longer }

  -- Those that are not rolled back have smaller numbers.
  smaller : (place : ℕ) (t : Transaction) → StandsAt machine.transactions place t → t.number < number
  smaller place t stands = go (is_rolled_back t.standing) stands.1 (passes_at (λ (u : Transaction). is_rolled_back u.standing || nat_lt u.number number) machine.transactions place t greater stands.0)
    where
      go : (b : Bool) → b ≡ false → (b || nat_lt t.number number) ≡ true → t.number < number
      go true is passes = cc
      go false is passes = grind (arith, nat_tests)

  -- No open one is of this owner.
  other_owner : (place : ℕ) (t : Transaction) → IsOpenAt machine.transactions place t → t.owner ≡ who → ⊥
  other_owner place t opens same =
      let fails : (is_open t.standing && (t.owner == who)) ≡ false = none_passes (is_open_of who) machine.transactions place t none opens.0 in
      let passes : (is_open t.standing && (t.owner == who)) ≡ true = rw (opens.1, test_of_same t.owner who same) refl in
      cc

  numbers_after : NumbersDiffer longer
  numbers_after place other t u stands also same = go (place_of machine.transactions new t place stands.0) (place_of machine.transactions new u other also.0)
    where
      go : PlaceOf machine.transactions new t place → PlaceOf machine.transactions new u other → place ≡ other
      go (earlier at) (earlier and_at) = orderly.numbers place other t u (at, stands.1) (and_at, also.1) same
      go (earlier at) (last end is) = let less = smaller place t (at, stands.1) in let of : number ≡ u.number = ap (λ (x : Transaction). x.number) is in absurd (omega (arith, less, of, same))
      go (last end is) (earlier at) = let less = smaller other u (at, also.1) in let of : number ≡ t.number = ap (λ (x : Transaction). x.number) is in absurd (omega (arith, less, of, same))
      go (last end is) (last and_end and_is) = end ∙ sym and_end

  owners_after : OwnersDiffer longer
  owners_after place other t u opens also same = go (place_of machine.transactions new t place opens.0) (place_of machine.transactions new u other also.0)
    where
      go : PlaceOf machine.transactions new t place → PlaceOf machine.transactions new u other → place ≡ other
      go (earlier at) (earlier and_at) = orderly.owners place other t u (at, opens.1) (and_at, also.1) same
      go (earlier at) (last end is) = absurd (other_owner place t (at, opens.1) (same ∙ sym (ap (λ (x : Transaction). x.owner) is)))
      go (last end is) (earlier at) = absurd (other_owner other u (at, also.1) (sym same ∙ sym (ap (λ (x : Transaction). x.owner) is)))
      go (last end is) (last and_end and_is) = end ∙ sym and_end

  -- What is committed stays so.
  still_committed : (n : ℕ) → is_held (committed_numbers machine.transactions) n ≡ true → is_held (committed_numbers longer) n ≡ true
  still_committed n held =
      let c = committed_at machine.transactions n held in
      held_by_committed longer n (record { place = c.place; maker = c.maker; at = before_end machine.transactions new c.maker c.place c.at; committed = c.committed; same = c.same })

  new_holds : (n : ℕ) → is_held new.snapshot n ≡ true → (n ≡ number) ⊎ (is_held (committed_numbers longer) n ≡ true)
  new_holds n held = go (one_passes (number == n) (is_held (committed_numbers machine.transactions) n) held)
    where
      go : ((number == n) ≡ true) ⊎ (is_held (committed_numbers machine.transactions) n ≡ true) → (n ≡ number) ⊎ (is_held (committed_numbers longer) n ≡ true)
      go (inl same) = inl (sym (same_from_test number n same))
      go (inr committed) = inr (still_committed n committed)

  new_own : is_held new.snapshot number ≡ true
  new_own = rw (test_of_same number number refl) refl

  snapshots_after : SnapshotsHoldCommits longer
  snapshots_after place t opens = go (place_of machine.transactions new t place opens.0)
    where
      more : (n : ℕ) → (n ≡ t.number) ⊎ (is_held (committed_numbers machine.transactions) n ≡ true) → (n ≡ t.number) ⊎ (is_held (committed_numbers longer) n ≡ true)
      more n (inl same) = inl same
      more n (inr committed) = inr (still_committed n committed)

      go : PlaceOf machine.transactions new t place → (is_held t.snapshot t.number ≡ true) × ((n : ℕ) → is_held t.snapshot n ≡ true → (n ≡ t.number) ⊎ (is_held (committed_numbers longer) n ≡ true))
      go (earlier at) = let before = orderly.snapshots place t (at, opens.1) in (before.0, λ n held. more n (before.1 n held))
      go (last end is) = subst (λ (x : Transaction). (is_held x.snapshot x.number ≡ true) × ((n : ℕ) → is_held x.snapshot n ≡ true → (n ≡ x.number) ⊎ (is_held (committed_numbers longer) n ≡ true))) is (new_own, new_holds)

  makers_after : MakersAreThere after
  makers_after relation row v within =
      let before = orderly.makers relation row v within in
      let count : length longer ≡ length machine.transactions + 1 = length-append machine.transactions (new ∷ []) in
      omega (arith, before, count)

  -- The place of a version's maker is an old one.
  old_place : (place : ℕ) (t : Transaction) → place < length machine.transactions → slice_get longer place ≡ Some t → slice_get machine.transactions place ≡ Some t
  old_place place t before at = go (place_of machine.transactions new t place at)
    where
      go : PlaceOf machine.transactions new t place → slice_get machine.transactions place ≡ Some t
      go (earlier is) = is
      go (last end is) = absurd (omega (arith, before, end))

  front_after : OpensStandInFront after
  front_after relation row newer older v w t u whole opens within stands =
      let of_w = orderly.makers relation row w (subst (λ ms. Contains ms w) (sym whole) (Contains-append_right newer (w ∷ older) w (at_head w older))) in
      let of_v = orderly.makers relation row v (subst (λ ms. Contains ms v) (sym whole) (Contains-append_left newer (w ∷ older) v within)) in
      orderly.front relation row newer older v w t u whole (old_place w.maker t of_w opens.0, opens.1) within (old_place v.maker u of_v stands.0, stands.1)

  pub begun_orderly : IsOrderly after
  begun_orderly = record { numbers = numbers_after; owners = owners_after; snapshots = snapshots_after; makers = makers_after; front = front_after }
