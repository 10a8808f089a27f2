-- An owner is dead by all of its requests where it is by one.
use Rattle.std.proofs.Common.{◌≡◌, ℕ, ◌<◌, ◌≤◌, Bool, true, false, ◌⊎◌, inl, inr, List, [], ◌∷◌, map, length, get_or, IfSome, refl, sym, ◌∙◌, ap, arith}
use Rattle.std.specs.List.{All, filter, list_any, reduce}
use Rattle.std.proofs.lemmas.Bool.{cases_lt}
use Rattle.std.proofs.lemmas.Bool.Decides.{nat_tests}
use Rattle.std.proofs.lemmas.List.{get_or_default}
use Rattle.std.proofs.lemmas.List.Elements.{All-head, All-tail, All-filter, filter_passes}
use Rattle.fbc_levels.specs.declared.resources.Request.{Request}
use Rattle.fbc_levels.specs.LockState.{LockState, IsLawful, IsDead, is_alive_of, is_dead, dead_of, lesser}
use Rattle.fbc_levels.proofs.Least.{reduce-chosen}
use Rattle.fbc_lock_table.specs.Effects.{of_dead, died}

-- Where no element passes, a test of some finds none.
pub any-none : {X : Type 0} (q : X → Bool) (xs : List X) → All (λ x. q x ≡ false) xs → list_any q xs ≡ false
any-none q [] none = refl
any-none q (x ∷ xs) none = rw (All-head (λ y. q y ≡ false) x xs none) (any-none q xs (All-tail (λ y. q y ≡ false) x xs none))

module _ (s : LockState) (l : IsLawful s) where
  -- The requests at two places are alive or dead together, where they are of one owner.
  same_fate : (i j : ℕ) (d : Request) → i < length s.requests → j < length s.requests → (get_or s.requests j d).owner ≡ (get_or s.requests i d).owner → (get_or s.requests j d).alive ≡ (get_or s.requests i d).alive
  same_fate i j d within_i within_j same = step (cases_lt i j) where
    step : (i < j) ⊎ (j ≤ i) → (get_or s.requests j d).alive ≡ (get_or s.requests i d).alive
    step (inl before) = sym (l.one_fate i j d before within_j (sym same))
    step (inr after) = behind (cases_lt j i) where
      behind : (j < i) ⊎ (i ≤ j) → (get_or s.requests j d).alive ≡ (get_or s.requests i d).alive
      behind (inl before) = l.one_fate j i d before within_i same
      behind (inr equal) =
          let here : j ≡ i = omega (arith, after, equal) in
          ap (λ k. (get_or s.requests k d).alive) here

  -- No request of a dead request's owner says that it lives.
  pub each_fate : All (λ r. r.alive ≡ false → IsDead s r.owner) s.requests
  each_fate i d within dead = any-none (is_alive_of (get_or s.requests i d).owner) s.requests others where
    none : (t : Request) → (t.owner ≡ (get_or s.requests i d).owner → t.alive ≡ false) → is_alive_of (get_or s.requests i d).owner t ≡ false
    none t alike = grind (arith, nat_tests)

    others : All (λ t. is_alive_of (get_or s.requests i d).owner t ≡ false) s.requests
    others j e within' =
        let there : get_or s.requests j e ≡ get_or s.requests j d = get_or_default s.requests j e d within' in
        rw there (none (get_or s.requests j d) (λ same. same_fate i j d within within' same ∙ dead))

  pub holder_fate : (p : Request → Bool) → IfSome (reduce lesser (filter p s.requests)) (λ r. r.alive ≡ false → IsDead s r.owner)
  holder_fate p = reduce-chosen (λ r. r.alive ≡ false → IsDead s r.owner) (filter p s.requests) (All-filter p (λ r. r.alive ≡ false → IsDead s r.owner) s.requests each_fate)

not_alive : (r : Request) → is_dead r ≡ true → r.alive ≡ false
not_alive r dead = grind (arith)

-- The dead owner that is chosen is dead by all of its requests.
pub dead_fate : (s : LockState) → IsLawful s → IfSome (dead_of s) (λ r. IsDead s r.owner)
dead_fate s l =
    reduce-chosen (λ r. IsDead s r.owner) (filter is_dead s.requests)
    (λ k d within. All-filter is_dead (λ r. r.alive ≡ false → IsDead s r.owner) s.requests (each_fate s l) k d within (not_alive (get_or (filter is_dead s.requests) k d) (filter_passes is_dead s.requests k d within)))

-- Who died is dead.
pub died_is_dead : (s : LockState) (owner : ℕ) → IsDead (died s owner) owner
died_is_dead s owner = go s.requests where
  none : (r : Request) → is_alive_of owner (of_dead owner r) ≡ false
  none r = grind (arith, nat_tests)

  go : (rs : List Request) → list_any (is_alive_of owner) (map (of_dead owner) rs) ≡ false
  go [] = refl
  go (r ∷ rs) = rw (none r) (go rs)
