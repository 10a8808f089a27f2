-- What a need comes to.
use Rattle.std.specs.Prelude.{◌≡◌, ◌<◌, ◌==◌, ◌&&◌, ◌||◌, ℕ, Bool, true, false, not, if◌then◌else◌, List, Option, Some, None, length, is_some, is_none}
use Rattle.std.specs.List.{filter, find, list_any}
use Rattle.std.specs.Option.{option_map_or}
use Rattle.fbc_levels.specs.declared.levels.Level.{Level}
use Rattle.fbc_levels.specs.declared.levels.Level.TheVariants.{Ex, Free, Pr}
use Rattle.fbc_levels.specs.Levels.{is_free, is_page_level}
use Rattle.fbc_levels.specs.declared.resources.Resource.{Resource}
use Rattle.fbc_levels.specs.declared.resources.Series.TheVariants as series
use Rattle.fbc_levels.specs.Resources.{is_same_series, page_resource}
use Rattle.fbc_kinds.specs.declared.edges.Edge.{Edge}
use Rattle.fbc_world.specs.declared.asks.Ask.{Ask}
use Rattle.fbc_world.specs.declared.asks.Ask.TheVariants as ask
use Rattle.fbc_world.specs.declared.asks.Cause.TheVariants.{Evict}
use Rattle.fbc_buffers.specs.declared.buffers.Buffer.{Buffer}
use Rattle.fbc_buffers.specs.Holding.{buffer_of, is_pinned, is_waiting, victim_of}
use Rattle.fbc_cache.specs.declared.needs.Need.{Need}
use Rattle.fbc_cache.specs.declared.needs.Want.{Want}
use Rattle.fbc_cache.specs.declared.needs.Want.TheVariants.{Here, Must}
use Rattle.fbc_cache.specs.Cache.{CacheState, is_dirty_in, is_granted_in, is_pinned_in, level_in}
use Rattle.fbc_cache.specs.Giving.{GivesUp}
use Rattle.fbc_precedence.specs.Search.{is_blocked}

-- Whether a page that is held in the first level may be used in the second.
abbrev pub suffices : Level → Level → Bool
suffices Ex wanted = true
suffices Pr Pr = true
suffices _ wanted = false

-- Whether the page is pinned in a level that does not do.
abbrev pub is_pinned_below : Level → Buffer → Bool
is_pinned_below level b = b.is_pinned && not (suffices b.level level)

-- A page may be needed to be read or to be changed, where it is not pinned in a lower level, no other page is waited for, and fewer
-- pages are pinned than there are buffers.
pub record MayWant (c : CacheState) (need : Need) : Type 0 where
  pub level : is_page_level need.level ≡ true
  pub unpinned : option_map_or (is_pinned_below need.level) (buffer_of c.held need.page) false ≡ false
  pub alone : option_map_or (λ (b : Buffer). b.page == need.page) (find is_waiting c.held) true ≡ true
  pub loose : length (filter is_pinned c.held) < c.room

-- A page that has a buffer: it is waited for; it is held in a level that does not do, and is given up; it may be used; or it is read.
abbrev pub want_held : Need → Buffer → Want
want_held need b =
    if is_waiting b then Must ask.Look
    else if not (suffices b.level need.level) then Must (ask.Lower (page_resource need.page) Free)
    else if is_some b.copy || need.fresh then Here
    else Must (ask.Read need.page)

-- The lock of a page.
abbrev pub lock_for : Need → Ask
lock_for need = ask.Lock (page_resource need.page) need.level need.wait 0

-- Where all buffers are in use, one is made free; else the lock is asked.
pub record Evicts (c : CacheState) (need : Need) (want : Want) : Type 0 where
  pub victim : ℕ
  pub asked : Ask
  pub is_victim : victim_of c.held ≡ Some victim
  pub is_due : GivesUp c victim (Evict need.page) Free asked
  pub is_asked : want ≡ Must asked

abbrev pub WantsBuffer : CacheState → Need → Bool → Want → Type 0
WantsBuffer c need true want = Evicts c need want
WantsBuffer c need false want = want ≡ Must (lock_for need)

-- What a need comes to, by the page's buffer.
abbrev pub WantsBy : CacheState → Need → Option Buffer → Want → Type 0
WantsBy c need (Some b) want = want ≡ want_held need b
WantsBy c need None want = WantsBuffer c need (length c.held == c.room) want

abbrev pub Wants : CacheState → Need → Want → Type 0
Wants c need want = WantsBy c need (buffer_of c.held need.page) want

-- Whether the page of this buffer may be used.
abbrev pub is_usable : Need → Buffer → Bool
is_usable need b = is_none b.wanted && suffices b.level need.level && (is_some b.copy || need.fresh)

-- The page may be used: it is held in a level that does, and is valid or to be formatted.
pub record IsHere (c : CacheState) (need : Need) : Type 0 where
  pub buffer : Buffer
  pub found : buffer_of c.held need.page ≡ Some buffer
  pub granted : buffer.wanted ≡ None
  pub level : suffices buffer.level need.level ≡ true
  pub valid : (is_some buffer.copy || need.fresh) ≡ true

-- Whether the resource is a page.
abbrev pub is_page_series : Resource → Bool
is_page_series r = is_same_series r.series series.Page

-- A lock on a page is due where the page has no buffer, one is free, and no page is waited for.
abbrev pub is_lock_due : CacheState → ℕ → Level → Bool
is_lock_due c page level =
    is_none (buffer_of c.held page) && not (length c.held == c.room) && is_page_level level && not (list_any is_waiting c.held)

-- Whether a page is held, clean and not pinned.
abbrev pub is_idle : Buffer → Bool
is_idle b = is_none b.wanted && not b.is_dirty && not b.is_pinned

-- Whether a page that is held in the second level is held in the first one too.
abbrev pub is_part : Level → Level → Bool
is_part level held = is_free level || suffices held level

-- A page may be lowered to a part of its level where it is held, clean and not pinned, and no page is to be written before it.
abbrev pub is_lowering_due : CacheState → ℕ → Level → Bool
is_lowering_due c page level =
    option_map_or is_idle (buffer_of c.held page) false && not (is_blocked c.pairs page) && (is_free level || is_page_level level) && is_part level (level_in c.held page)

-- A page may be given up, or held in this level: its grant was learnt, it is not in use, and the level is a part of its own.
pub record MayGiveUp (c : CacheState) (page : ℕ) (level : Level) : Type 0 where
  pub granted : is_granted_in c.held page ≡ true
  pub loose : is_pinned_in c.held page ≡ false
  pub usable : (is_free level || is_page_level level) ≡ true
  pub part : is_part level (level_in c.held page) ≡ true

-- A page is read where it is held and has no copy.
abbrev pub is_unread : Buffer → Bool
is_unread b = is_none b.wanted && is_none b.copy

-- A page is written where it is dirty and no page is to be written before it.
abbrev pub is_write_due : CacheState → ℕ → Bool
is_write_due c page = is_dirty_in c.held page && not (is_blocked c.pairs page)

-- Whether a step of the cache's own is due: it keeps what a cache is. What is asked of no page is no matter of the cache, but
-- that nothing else is asked while a page is waited for.
abbrev pub is_due : CacheState → Ask → Bool
is_due c (ask.Lock r level wait word) = if is_page_series r then is_lock_due c r.key level else not (list_any is_waiting c.held)
is_due c (ask.Lower r level) = not (is_page_series r) || is_lowering_due c r.key level
is_due c (ask.Read page) = option_map_or is_unread (buffer_of c.held page) false
is_due c (ask.Write page cause) = is_write_due c page
is_due c _ = true

-- The step that a want gives is due.
abbrev pub IsDueWant : CacheState → Want → Type 0
IsDueWant c Here = Unit {0}
IsDueWant c (Must asked) = is_due c asked ≡ true
