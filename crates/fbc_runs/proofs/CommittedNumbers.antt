-- A number is committed exactly if a committed transaction has it.
use Rattle.std.proofs.Common.{◌≡◌, ◌∙◌, ◌⊎◌, ◌||◌, ◌==◌, inl, inr, ℕ, zero, suc, Bool, true, false, List, [], ◌∷◌, map, refl, ap, if◌then◌else◌}
use Rattle.std.proofs.lemmas.Bool.{or_right}
use Rattle.std.specs.Prelude.{Some, filter, slice_get}
use Rattle.std.proofs.lemmas.Option.{same_Some}
use Rattle.fbc_kinds.specs.declared.snapshots.Transaction.{Transaction}
use Rattle.fbc_kinds.specs.Machine.{committed_numbers, is_committed, is_held}
use Rattle.fbc_kinds.proofs.Tests.{same_from_test, test_of_same}

pub one_passes : (a b : Bool) → (a || b) ≡ true → (a ≡ true) ⊎ (b ≡ true)
one_passes true b passes = inl refl
one_passes false b passes = inr passes

-- A committed transaction of this number is in the list.
pub record IsCommittedAt (ts : List Transaction) (number : ℕ) : Type 0 where
  pub place : ℕ
  pub maker : Transaction
  pub at : slice_get ts place ≡ Some maker
  pub committed : is_committed maker.standing ≡ true
  pub same : maker.number ≡ number

behind : (t : Transaction) (ts : List Transaction) (number : ℕ) → IsCommittedAt ts number → IsCommittedAt (t ∷ ts) number
behind t ts number c = record { place = suc c.place; maker = c.maker; at = c.at; committed = c.committed; same = c.same }

abbrev numbers_if : Bool → Transaction → List Transaction → List ℕ
numbers_if b t ts = map (λ (u : Transaction). u.number) (if b then t ∷ filter (λ (u : Transaction). is_committed u.standing) ts else filter (λ (u : Transaction). is_committed u.standing) ts)

pub committed_at : (ts : List Transaction) (number : ℕ) → is_held (committed_numbers ts) number ≡ true → IsCommittedAt ts number
committed_at [] number held = cc
committed_at (t ∷ ts) number held = go (is_committed t.standing) refl held (committed_at ts number)
  where
    go : (b : Bool) → is_committed t.standing ≡ b → is_held (numbers_if b t ts) number ≡ true → (is_held (committed_numbers ts) number ≡ true → IsCommittedAt ts number) → IsCommittedAt (t ∷ ts) number
    go false fails held later = behind t ts number (later held)
    go true is held later = each (one_passes (t.number == number) (is_held (committed_numbers ts) number) held) later
      where
        each : ((t.number == number) ≡ true) ⊎ (is_held (committed_numbers ts) number ≡ true) → (is_held (committed_numbers ts) number ≡ true → IsCommittedAt ts number) → IsCommittedAt (t ∷ ts) number
        each (inl same) later = record { place = 0; maker = t; at = refl; committed = is; same = same_from_test t.number number same }
        each (inr held) later = behind t ts number (later held)

held_first : (t : Transaction) (ts : List Transaction) (number : ℕ) → is_committed t.standing ≡ true → t.number ≡ number → is_held (committed_numbers (t ∷ ts)) number ≡ true
held_first t ts number is same =
    ap (λ b. is_held (numbers_if b t ts) number) is
    ∙ ap (λ b. b || is_held (committed_numbers ts) number) (test_of_same t.number number same)

held_behind : (t : Transaction) (ts : List Transaction) (number : ℕ) → is_held (committed_numbers ts) number ≡ true → is_held (committed_numbers (t ∷ ts)) number ≡ true
held_behind t ts number held = go (is_committed t.standing)
  where
    go : (b : Bool) → is_held (numbers_if b t ts) number ≡ true
    go true = or_right (t.number == number) (is_held (committed_numbers ts) number) held
    go false = held

held_at : (ts : List Transaction) (number place : ℕ) (t : Transaction) → slice_get ts place ≡ Some t → is_committed t.standing ≡ true → t.number ≡ number → is_held (committed_numbers ts) number ≡ true
held_at [] number place t at is same = cc
held_at (u ∷ ts) number zero t at is same =
    let one : u ≡ t = same_Some u t at in
    held_first u ts number (ap (λ (x : Transaction). is_committed x.standing) one ∙ is) (ap (λ (x : Transaction). x.number) one ∙ same)
held_at (u ∷ ts) number (suc place) t at is same = held_behind u ts number (held_at ts number place t at is same)

pub held_by_committed : (ts : List Transaction) (number : ℕ) → IsCommittedAt ts number → is_held (committed_numbers ts) number ≡ true
held_by_committed ts number c = held_at ts number c.place c.maker c.at c.committed c.same
