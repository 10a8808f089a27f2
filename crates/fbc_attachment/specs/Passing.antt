-- Which callbacks an attachment passes over.
use Rattle.std.specs.Prelude.{◌||◌, Bool, not, nat_lt}
use Rattle.fbc_levels.specs.declared.levels.Level.{Level}
use Rattle.fbc_levels.specs.declared.resources.Callback.{Callback}
use Rattle.fbc_levels.specs.Levels.{number_of}
use Rattle.fbc_cache.specs.Cache.{CacheState, is_pinned_in, level_in}

-- Whether the first level gives more than the second.
abbrev pub is_above : Level → Level → Bool
is_above level keep = nat_lt (number_of keep) (number_of level)

-- A page in use is kept, and so is one that is held in no higher level than may be kept.
abbrev pub is_passed_over : CacheState → Callback → Bool
is_passed_over c callback = is_pinned_in c.held callback.page || not (is_above (level_in c.held callback.page) callback.keep)
