-- Living transactions without those of one owner.
use Rattle.std.proofs.Common.{◌≡◌, ◌∙◌, ◌⊎◌, ◌==◌, ◌&&◌, inl, inr, ℕ, Bool, true, false, not, if◌then◌else◌, List, [], ◌∷◌, Contains, filter, find, map, Some, None, refl, sym, ap, subst, arith}
use Rattle.fbc_kinds.specs.declared.snapshots.Transaction.{Transaction}
use Rattle.fbc_kinds.specs.Machine.{Machine, is_open, is_open_of, open_transaction}
use Rattle.fbc_kinds.proofs.Tests.{differ_from_test, same_from_test, test_of_same}
use Rattle.fbc_runs.specs.Ended.{end_by, ended_by, is_owner_of, settled_by}
use Rattle.fbc_runs.proofs.CommittedOnes.{both_ways}
use Rattle.fbc_runs.proofs.EndedOnes.{closed_stays, with_same}
use Rattle.fbc_runs.proofs.Places.{at_head, head_or_tail, in_tail}
use Rattle.fbc_numbers.proofs.CutFacts.{clash}
use Rattle.fbc_simulation.proofs.LivingOwners.{has_living, lives_of}

abbrev pub others_of : ℕ → List Transaction → List Transaction
others_of who living = filter (λ (t : Transaction). not (t.owner == who)) living

-- One of the living transactions, of another owner.
pub record IsAnothers (who : ℕ) (living : List Transaction) (t : Transaction) : Type 0 where
  pub lives : Contains living t
  pub apart : ¬ (t.owner ≡ who)

module _ (who : ℕ) where
  pub of_others : (living : List Transaction) (t : Transaction) → Contains (others_of who living) t → IsAnothers who living t
  of_others [] t at = absurd (grind (arith, at.1))
  of_others (u ∷ living) t at = go (u.owner == who) refl at (of_others living t) where
    later : IsAnothers who living t → IsAnothers who (u ∷ living) t
    later is = record { lives = in_tail u living t is.lives; apart = is.apart }

    go : (b : Bool) → u.owner == who ≡ b → Contains (if not b then u ∷ others_of who living else others_of who living) t → (Contains (others_of who living) t → IsAnothers who living t) → IsAnothers who (u ∷ living) t
    go true its within rest = later (rest within)
    go false other within rest = elim (head_or_tail u (others_of who living) t within) [
      | inl one ↦ record { lives = subst (Contains (u ∷ living)) one (at_head u living); apart = λ same. differ_from_test u.owner who other (ap (λ (x : Transaction). x.owner) one ∙ same) }
      | inr behind ↦ later (rest behind)
    ]

  pub in_others : (living : List Transaction) (t : Transaction) → Contains living t → ¬ (t.owner ≡ who) → Contains (others_of who living) t
  in_others [] t at apart = absurd (grind (arith, at.1))
  in_others (u ∷ living) t at apart = go (u.owner == who) refl (head_or_tail u living t at) (λ within. in_others living t within apart) where
    go : (b : Bool) → u.owner == who ≡ b → (u ≡ t) ⊎ Contains living t → (Contains living t → Contains (others_of who living) t) → Contains (if not b then u ∷ others_of who living else others_of who living) t
    go true its (inl one) rest = absurd (apart (ap (λ (x : Transaction). x.owner) (sym one) ∙ same_from_test u.owner who its))
    go true its (inr within) rest = rest within
    go false other (inl one) rest = subst (Contains (u ∷ others_of who living)) one (at_head u (others_of who living))
    go false other (inr within) rest = in_tail u (others_of who living) t (rest within)

  module _ (living : List Transaction) where
    owner_in_others : (o : ℕ) → ¬ (o ≡ who) → is_owner_of living o ≡ true → is_owner_of (others_of who living) o ≡ true
    owner_in_others o differ is =
        let one = has_living living o is in
        subst (λ p. is_owner_of (others_of who living) p ≡ true) one.own
        (lives_of (others_of who living) one.t (in_others living one.t one.lives (λ same. differ (sym one.own ∙ same))))

    owner_of_others : (o : ℕ) → is_owner_of (others_of who living) o ≡ true → is_owner_of living o ≡ true
    owner_of_others o is =
        let one = has_living (others_of who living) o is in
        subst (λ p. is_owner_of living p ≡ true) one.own (lives_of living one.t (of_others living one.t one.lives).lives)

    owner_same : (o : ℕ) → ¬ (o ≡ who) → is_owner_of (others_of who living) o ≡ is_owner_of living o
    owner_same o differ = both_ways _ _ (owner_of_others o) (owner_in_others o differ)

    module _ (commits : ℕ → Bool) where
      one_same : (t : Transaction) → is_open_of who t ≡ false → ended_by (others_of who living) commits t ≡ ended_by living commits t
      one_same t not_own = go (is_open t.standing) refl where
        go : (b : Bool) → is_open t.standing ≡ b → ended_by (others_of who living) commits t ≡ ended_by living commits t
        go false is = closed_stays (others_of who living) commits t is ∙ sym (closed_stays living commits t is)
        go true is =
            ap (λ l. if is_open t.standing && not l then record t { standing = end_by (commits t.owner) } else t)
            (owner_same t.owner (λ same. clash _ (own same) not_own)) where
              own : t.owner ≡ who → is_open_of who t ≡ true
              own same = rw (is, test_of_same t.owner who same) refl

      all_same : (ts : List Transaction) → find (is_open_of who) ts ≡ None → map (ended_by (others_of who living) commits) ts ≡ map (ended_by living commits) ts
      all_same [] none = refl
      all_same (t ∷ ts) none = go (is_open_of who t) refl none (all_same ts) where
        go : (b : Bool) → is_open_of who t ≡ b → (if b then Some t else find (is_open_of who) ts) ≡ None
            → (find (is_open_of who) ts ≡ None → map (ended_by (others_of who living) commits) ts ≡ map (ended_by living commits) ts)
            → map (ended_by (others_of who living) commits) (t ∷ ts) ≡ map (ended_by living commits) (t ∷ ts)
        go true is found rest = cc
        go false is found rest = let here = one_same t is in let behind = rest found in λ i. here i ∷ behind i

      -- Who has no open transaction ends none.
      pub ends_of_others : (m : Machine) → open_transaction m who ≡ None → settled_by (others_of who living) commits m ≡ settled_by living commits m
      ends_of_others m none = with_same m _ _ (all_same m.transactions none)
