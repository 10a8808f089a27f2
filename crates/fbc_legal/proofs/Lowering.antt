-- A page's lock is lowered to none, or to a level in which the page may be used.
use Rattle.std.proofs.Common.{◌≡◌, ℕ, Bool, true, false, ◌||◌, inl, inr, if◌then◌else◌, List, refl}
use Rattle.std.specs.List.{list_all}
use Rattle.fbc_blocking.specs.Callbacks.{wanted_levels}
use Rattle.fbc_levels.specs.declared.levels.Level.{Level}
use Rattle.fbc_levels.specs.declared.levels.Level.TheVariants.{Ex, Free, Pr}
use Rattle.fbc_levels.specs.declared.resources.Callback.{Callback}
use Rattle.fbc_levels.specs.Levels.{highest_beside, is_compatible, is_free, is_page_level}
use Rattle.fbc_world.specs.History.{History}
use Rattle.fbc_world.specs.Locks.{locks_of}
use Rattle.fbc_legal.specs.Causes.{IsPolled, MeetsLowering}
use Rattle.fbc_legal.specs.Scene.{Scene}

-- No lock, or one by which a page may be used.
abbrev pub is_none_or_usable : Level → Bool
is_none_or_usable level = is_free level || is_page_level level

highest : (wanted : List Level) → is_none_or_usable (highest_beside wanted) ≡ true
highest wanted = go (list_all (is_compatible Ex) wanted) (list_all (is_compatible Pr) wanted) where
  go : (a b : Bool) → is_none_or_usable (if a then Ex else (if b then Pr else Free)) ≡ true
  go true b = refl
  go false true = refl
  go false false = refl

polled : (owner : ℕ) (callback : Callback) (history : History) → IsPolled owner callback history → is_none_or_usable callback.keep ≡ true
polled owner callback history (IsPolled.answered before moment above actor act next) = rw next.keep (highest (wanted_levels (locks_of before) owner callback.page))
polled owner callback history (IsPolled.still before moment was not_now) = polled owner callback before was

pub lowered_to_use : (at : Scene) (owner page : ℕ) (level : Level) → MeetsLowering at owner page level → is_none_or_usable level ≡ true
lowered_to_use at owner page level (inl free) = rw free refl
lowered_to_use at owner page level (inr called) = rw (← called.3) (polled owner called.0 at.past called.1)
