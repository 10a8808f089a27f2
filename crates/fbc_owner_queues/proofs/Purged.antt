-- A dead owner stays dead while its requests are taken away.
use Rattle.std.proofs.Common.{◌≡◌, ℕ, Bool, true, false, cond, ◌||◌, List, [], ◌∷◌, Option, Some, None, refl}
use Rattle.std.specs.List.{list_any, filter}
use Rattle.fbc_levels.specs.declared.resources.Request.{Request}
use Rattle.fbc_levels.specs.LockState.{LockState, IsDead, is_alive_of}
use Rattle.fbc_owner_queues.specs.Grants.{without_request}

none-filter : {X : Type 0} (q p : X → Bool) (xs : List X) → list_any q xs ≡ false → list_any q (filter p xs) ≡ false
none-filter q p [] none = refl
none-filter {X} q p (x ∷ xs) none = step (q x) (p x) refl none (none-filter q p xs) where
  step : (b c : Bool) → q x ≡ b → b || list_any q xs ≡ false → (list_any q xs ≡ false → list_any q (filter p xs) ≡ false) → list_any q (cond c (x ∷ filter p xs) (filter p xs)) ≡ false
  step true c is none' rest = absurd (cc)
  step false true is none' rest = rw is (rest none')
  step false false is none' rest = rest none'

pub purged_dead : (s : LockState) (owner : ℕ) (o : Option Request) → IsDead s owner → IsDead (without_request s o) owner
purged_dead s owner None dead = dead
purged_dead s owner (Some r) dead = none-filter (is_alive_of owner) _ s.requests dead
