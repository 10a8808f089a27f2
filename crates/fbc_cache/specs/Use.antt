-- The cache after a page is pinned, is no more pinned, is used without a pin, or is asked for while it is in use.
use Rattle.std.specs.Prelude.{ℕ, true, false, if◌then◌else◌, map}
use Rattle.fbc_buffers.specs.Holding.{touched, with_blocking, with_pin}
use Rattle.fbc_cache.specs.Cache.{CacheState, is_granted_in}

-- A page that is held is pinned, and is the last one used.
abbrev pub after_pin : CacheState → ℕ → CacheState
after_pin c page = if is_granted_in c.held page then record c { held = touched page (map (with_pin page true) c.held) } else c

abbrev pub after_unpin : CacheState → ℕ → CacheState
after_unpin c page = record c { held = map (with_pin page false) c.held }

abbrev pub after_mark : CacheState → ℕ → CacheState
after_mark c page = record c { held = map (with_blocking page true) c.held }

-- A page is the last one used.
abbrev pub after_touch : CacheState → ℕ → CacheState
after_touch c page = record c { held = touched page c.held }
