-- What the list of the committed numbers of a view holds.
use Rattle.std.proofs.Common.{◌≡◌, ◌∙◌, ◌==◌, ◌||◌, ◌++◌, ◌∷◌, [], ℕ, zero, suc, Bool, true, false, if◌then◌else◌, List, map, refl, sym, ap, subst}
use Rattle.std.specs.Prelude.{filter}
use Rattle.fbc_kinds.specs.declared.snapshots.Standing.TheVariants as standing
use Rattle.fbc_kinds.specs.declared.snapshots.Transaction.{Transaction}
use Rattle.fbc_kinds.specs.Chain.{state_of}
use Rattle.fbc_kinds.specs.Machine.{committed_numbers, is_committed, is_held}
use Rattle.fbc_kinds.specs.Meaning.{settled, transactions_up_to}
use Rattle.fbc_kinds.specs.View.{View, is_committed_state}
use Rattle.fbc_legal.proofs.Exclusion.{same_number}
use Rattle.fbc_numbers.specs.Numbers.{is_committed_in}

or_assoc : (a b c : Bool) → (a || (b || c)) ≡ ((a || b) || c)
or_assoc true b c = refl
or_assoc false b c = refl

held_append : (earlier later : List Transaction) (number : ℕ) → is_held (committed_numbers (earlier ++ later)) number ≡ (is_held (committed_numbers earlier) number || is_held (committed_numbers later) number)
held_append [] later number = refl
held_append (t ∷ ts) later number = go (is_committed t.standing) (held_append ts later number) where
  go : (b : Bool) → is_held (committed_numbers (ts ++ later)) number ≡ (is_held (committed_numbers ts) number || is_held (committed_numbers later) number)
      → is_held (map (λ (u : Transaction). u.number) (if b then t ∷ filter (λ (u : Transaction). is_committed u.standing) (ts ++ later) else filter (λ (u : Transaction). is_committed u.standing) (ts ++ later))) number
      ≡ (is_held (map (λ (u : Transaction). u.number) (if b then t ∷ filter (λ (u : Transaction). is_committed u.standing) ts else filter (λ (u : Transaction). is_committed u.standing) ts)) number || is_held (committed_numbers later) number)
  go true rest = ap (λ r. (t.number == number) || r) rest ∙ or_assoc (t.number == number) _ _
  go false rest = rest

module _ (seen : View) (number : ℕ) where
  one : (last : ℕ) → is_held (committed_numbers (settled seen last ∷ [])) number ≡ true → is_committed_in seen number ≡ true
  one last = go (is_committed_state (state_of seen last)) refl where
    go : (b : Bool) → is_committed_in seen last ≡ b
        → is_held (map (λ (u : Transaction). u.number) (if is_committed (if b then standing.Committed else standing.RolledBack) then record { number = last; owner = 0; standing = if b then standing.Committed else standing.RolledBack; snapshot = [] } ∷ [] else [])) number ≡ true
        → is_committed_in seen number ≡ true
    go true is held = at (last == number) refl held where
      at : (c : Bool) → last == number ≡ c → (c || false) ≡ true → is_committed_in seen number ≡ true
      at true same found = subst (λ n. is_committed_in seen n ≡ true) (same_number last number same) is
      at false apart found = absurd cc
    go false is held = absurd cc

  -- Each is committed.
  pub held-committed : (count : ℕ) → is_held (committed_numbers (transactions_up_to seen [] count)) number ≡ true → is_committed_in seen number ≡ true
  held-committed zero held = absurd cc
  held-committed (suc count) held =
      go (held-committed count) (is_held (committed_numbers (transactions_up_to seen [] count)) number) refl (sym (held_append (transactions_up_to seen [] count) (settled seen (suc count) ∷ []) number) ∙ held) where
        go : (is_held (committed_numbers (transactions_up_to seen [] count)) number ≡ true → is_committed_in seen number ≡ true) → (b : Bool) → is_held (committed_numbers (transactions_up_to seen [] count)) number ≡ b
            → (b || is_held (committed_numbers (settled seen (suc count) ∷ [])) number) ≡ true → is_committed_in seen number ≡ true
        go earlier true is found = earlier is
        go earlier false is found = one (suc count) found
