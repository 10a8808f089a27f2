-- What a callback that a poll answered lets its owner keep.
use Rattle.std.proofs.Common.{◌≡◌, ◌⊎◌, inl, inr, ℕ, Bool, true, false, if◌then◌else◌, List, refl, subst, sym}
use Rattle.std.specs.List.{list_all}
use Rattle.fbc_blocking.specs.Callbacks.{wanted_levels}
use Rattle.fbc_levels.specs.declared.levels.Level.{Level}
use Rattle.fbc_levels.specs.declared.levels.Level.TheVariants.{Ex, Free, Null, Pr, Pw, Sr, Sw}
use Rattle.fbc_levels.specs.declared.resources.Callback.{Callback}
use Rattle.fbc_levels.specs.Levels.{highest_beside, is_compatible}
use Rattle.fbc_world.specs.History.{History}
use Rattle.fbc_world.specs.Locks.{locks_of}
use Rattle.fbc_legal.specs.Causes.{IsPolled, answered, still}
use Rattle.fbc_cache.specs.Cache.{CacheState, level_in}
use Rattle.fbc_downgrade.specs.Serving.{IsKeep, IsServed, is_above}

-- The greatest of three levels.
highest-is : (wanted : List Level) → (highest_beside wanted ≡ Ex) ⊎ IsKeep (highest_beside wanted)
highest-is wanted = go (list_all (is_compatible Ex) wanted) (list_all (is_compatible Pr) wanted) where
  go : (s t : Bool) → ((if s then Ex else (if t then Pr else Free)) ≡ Ex) ⊎ IsKeep (if s then Ex else (if t then Pr else Free))
  go true t = inl refl
  go false true = inr (inr refl)
  go false false = inr (inl refl)

keep-is : (owner : ℕ) (callback : Callback) (history : History) → IsPolled owner callback history → (callback.keep ≡ Ex) ⊎ IsKeep callback.keep
keep-is owner callback _ (answered before moment above actor act next) =
    subst (λ (level : Level). (level ≡ Ex) ⊎ IsKeep level) (sym next.keep) (highest-is (wanted_levels (locks_of before) owner callback.page))
keep-is owner callback _ (still before moment polled other) = keep-is owner callback before polled

-- No level is above EX.
none-above : (level : Level) → is_above level Ex ≡ true → ⊥
none-above Free above = absurd (cc)
none-above Null above = absurd (cc)
none-above Sr above = absurd (cc)
none-above Pr above = absurd (cc)
none-above Sw above = absurd (cc)
none-above Pw above = absurd (cc)
none-above Ex above = absurd (cc)

pub polled-keep : (owner : ℕ) (callback : Callback) (history : History) (c : CacheState) → IsPolled owner callback history → IsServed c callback → IsKeep callback.keep
polled-keep owner callback history c polled served = go (keep-is owner callback history polled) where
  go : (callback.keep ≡ Ex) ⊎ IsKeep callback.keep → IsKeep callback.keep
  go (inl ex) = absurd (none-above (level_in c.held callback.page) (subst (λ (keep : Level). is_above (level_in c.held callback.page) keep ≡ true) ex served.above))
  go (inr keep) = keep
