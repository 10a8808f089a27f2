-- What the serving of a callback comes to.
use Rattle.std.specs.Prelude.{◌≡◌, ◌⊎◌, Bool, true, false, if◌then◌else◌, nat_lt}
use Rattle.fbc_levels.specs.declared.levels.Level.{Level}
use Rattle.fbc_levels.specs.declared.levels.Level.TheVariants.{Free, Pr}
use Rattle.fbc_levels.specs.declared.resources.Callback.{Callback}
use Rattle.fbc_levels.specs.Levels.{number_of}
use Rattle.fbc_world.specs.declared.asks.Ask.{Ask}
use Rattle.fbc_world.specs.declared.asks.Cause.TheVariants.{CallbackOf}
use Rattle.fbc_cache.specs.Cache.{CacheState, is_pinned_in, level_in}
use Rattle.fbc_cache.specs.Giving.{GivesUp}
use Rattle.fbc_cache.specs.Use.{after_mark}
use Rattle.fbc_cache.specs.Wants.{is_due}
use Rattle.fbc_downgrade.specs.declared.serving.Serving.{Serving}
use Rattle.fbc_downgrade.specs.declared.serving.Serving.TheVariants.{Done, Later, Must}

-- Whether the first level gives more than the second.
abbrev pub is_above : Level → Level → Bool
is_above level keep = nat_lt (number_of keep) (number_of level)

-- The page is not in use, and is held in a level above the one that may be kept.
pub record IsServed (c : CacheState) (callback : Callback) : Type 0 where
  pub loose : is_pinned_in c.held callback.page ≡ false
  pub above : is_above (level_in c.held callback.page) callback.keep ≡ true

-- The page is not in use, and is held in no level above that one.
pub record IsPassedOver (c : CacheState) (callback : Callback) : Type 0 where
  pub loose : is_pinned_in c.held callback.page ≡ false
  pub above : is_above (level_in c.held callback.page) callback.keep ≡ false

-- The step by which the page is given up for the asker.
abbrev pub Downgrades : CacheState → Callback → Ask → Type 0
Downgrades c callback asked = GivesUp c callback.page (CallbackOf callback.asker) callback.keep asked

-- A page in use is left; one that is held in no higher level is done; else a step is due.
abbrev pub Serves : CacheState → Callback → Serving → Type 0
Serves c callback Later = is_pinned_in c.held callback.page ≡ true
Serves c callback Done = IsPassedOver c callback
Serves c callback (Must asked) = IsServed c callback × Downgrades c callback asked

-- A page in use is marked.
abbrev pub after_serve : CacheState → Callback → CacheState
after_serve c callback = if is_pinned_in c.held callback.page then after_mark c callback.page else c

-- A page may be kept in PR, or not at all.
abbrev pub IsKeep : Level → Type 0
IsKeep keep = (keep ≡ Free) ⊎ (keep ≡ Pr)

-- The step that is due keeps what a cache is.
abbrev pub IsDueServing : CacheState → Serving → Type 0
IsDueServing c (Must asked) = is_due c asked ≡ true
IsDueServing c _ = Unit {0}
