-- Machines with the same open transactions agree on what each open snapshot holds, and on what is another's open number.
use Rattle.std.proofs.Common.{◌≡◌, ◌∙◌, ℕ, Bool, true, false, not, ◌==◌, ◌&&◌, ◌||◌, List, refl, sym, ap, subst, find}
use Rattle.std.specs.Prelude.{Option, Some, None, slice_get}
use Rattle.fbc_kinds.specs.declared.snapshots.Transaction.{Transaction}
use Rattle.fbc_kinds.specs.Machine.{committed_numbers, is_held, is_held_by_open, is_open, is_open_of, is_open_of_other}
use Rattle.fbc_kinds.specs.Meaning.{IsSameOpen, IsSameTransaction}
use Rattle.fbc_kinds.proofs.Heads.{both_pass}
use Rattle.fbc_kinds.proofs.Tests.{same_from_test, test_of_same}
use Rattle.fbc_runs.specs.Orderly.{OwnersDiffer}
use Rattle.fbc_runs.proofs.Searches.{all_at, all_from, any_at, any_from, placed, some_found}

-- Two lists have the same open transactions and the same committed numbers.
pub record SameTransactions (ts us : List Transaction) : Type 0 where
  pub opened : (who : ℕ) → IsSameOpen (find (is_open_of who) ts) (find (is_open_of who) us)
  pub committed : (number : ℕ) → is_held (committed_numbers ts) number ≡ is_held (committed_numbers us) number

-- What is found for an owner is open, and is the owner's.
pub record IsOpenOf (ts : List Transaction) (who : ℕ) (t : Transaction) : Type 0 where
  pub place : ℕ
  pub at : slice_get ts place ≡ Some t
  pub opened : is_open t.standing ≡ true
  pub owner : t.owner ≡ who

pub open_one : (ts : List Transaction) (who : ℕ) (t : Transaction) → find (is_open_of who) ts ≡ Some t → IsOpenOf ts who t
open_one ts who t is =
    let found = placed (is_open_of who) ts t 0 is in
    let both = both_pass (is_open t.standing) (t.owner == who) found.passes in
    record { place = found.place; at = found.at; opened = both.0; owner = same_from_test t.owner who both.1 }

-- Each open transaction is the one that is found for its owner.
pub own_found : (ts : List Transaction) → OwnersDiffer ts → (place : ℕ) (t : Transaction) → slice_get ts place ≡ Some t → is_open t.standing ≡ true → find (is_open_of t.owner) ts ≡ Some t
own_found ts differ place t at opened =
    let own : is_open_of t.owner t ≡ true = rw (opened, test_of_same t.owner t.owner refl) refl in
    let some = some_found (is_open_of t.owner) ts place t at own in
    let found = open_one ts t.owner some.0 some.1 in
    let one : found.place ≡ place = differ found.place place some.0 t (found.at, found.opened) (at, opened) found.owner in
    some.1 ∙ sym found.at ∙ ap (slice_get ts) one ∙ at

-- The other list's open transaction of an owner.
pub record IsPaired (ts : List Transaction) (u : Transaction) : Type 0 where
  pub other : Transaction
  pub found : IsOpenOf ts u.owner other
  pub same : IsSameTransaction other u

module _ (ts us : List Transaction) (opened : (who : ℕ) → IsSameOpen (find (is_open_of who) ts) (find (is_open_of who) us)) (differ : OwnersDiffer us) where
  paired : (place : ℕ) (u : Transaction) → slice_get us place ≡ Some u → is_open u.standing ≡ true → IsPaired ts u
  paired place u at is = go (find (is_open_of u.owner) ts) refl (subst (IsSameOpen (find (is_open_of u.owner) ts)) (own_found us differ place u at is) (opened u.owner))
    where
      go : (o : Option Transaction) → find (is_open_of u.owner) ts ≡ o → IsSameOpen o (Some u) → IsPaired ts u
      go None found same = absurd same
      go (Some t) found same = record { other = t; found = open_one ts u.owner t found; same = same }

  not_or : (a b : Bool) → (a ≡ true → b ≡ true) → (not a || b) ≡ true
  not_or true b is = is refl
  not_or false b is = refl

  held_where : (a b : Bool) → (not a || b) ≡ true → a ≡ true → b ≡ true
  held_where true b is opened = is
  held_where false b is opened = cc

  held_by_one : (number place : ℕ) (u : Transaction) → is_held_by_open ts number ≡ true → slice_get us place ≡ Some u → is_open u.standing ≡ true → is_held u.snapshot number ≡ true
  held_by_one number place u all at is =
      let pair = paired place u at is in
      let passes = all_at (λ (t : Transaction). not (is_open t.standing) || is_held t.snapshot number) ts pair.found.place pair.other all pair.found.at in
      sym (pair.same.snapshot number) ∙ held_where (is_open pair.other.standing) (is_held pair.other.snapshot number) passes pair.found.opened

  -- What each open snapshot of the first list holds, each of the second holds.
  pub held_by_others : (number : ℕ) → is_held_by_open ts number ≡ true → is_held_by_open us number ≡ true
  held_by_others number all =
      all_from (λ (t : Transaction). not (is_open t.standing) || is_held t.snapshot number) us
      (λ place u at. not_or (is_open u.standing) (is_held u.snapshot number) (held_by_one number place u all at))

  -- What is another's open number in the second list is one in the first.
  pub open_of_others : (who number : ℕ) → is_open_of_other us who number ≡ true → is_open_of_other ts who number ≡ true
  open_of_others who number is =
      let some = any_at (λ (t : Transaction). is_open t.standing && (t.number == number) && not (t.owner == who)) us is in
      let u = some.item in
      let first = both_pass (is_open u.standing && (u.number == number)) (not (u.owner == who)) some.passes in
      let second = both_pass (is_open u.standing) (u.number == number) first.0 in
      let pair = paired some.place u some.at second.0 in
      let numbered : (pair.other.number == number) ≡ true = ap (λ n. n == number) pair.same.number ∙ second.1 in
      let owned : not (pair.other.owner == who) ≡ true = ap (λ n. not (n == who)) pair.found.owner ∙ first.1 in
      any_from (λ (t : Transaction). is_open t.standing && (t.number == number) && not (t.owner == who)) ts pair.found.place pair.other pair.found.at (rw (pair.found.opened, numbered, owned) refl)
