-- How the serving of a callback goes on and ends.
use Rattle.std.specs.Prelude.{◌≡◌, ◌⊎◌, ℕ, suc, true, List, None}
use Rattle.fbc_levels.specs.declared.resources.Callback.{Callback}
use Rattle.fbc_precedence.specs.Pages.{has}
use Rattle.fbc_precedence.specs.Precedence.{IsAtOrBefore}
use Rattle.fbc_world.specs.declared.answers.Answer.TheVariants.{Written}
use Rattle.fbc_world.specs.declared.asks.Ask.{Ask}
use Rattle.fbc_world.specs.declared.asks.Ask.TheVariants as ask
use Rattle.fbc_world.specs.declared.asks.Cause.TheVariants.{CallbackOf}
use Rattle.fbc_levels.specs.Resources.{page_resource}
use Rattle.fbc_cache.specs.Cache.{CacheState, is_dirty_in}
use Rattle.fbc_cache.specs.Takes.{after_take}
use Rattle.fbc_downgrade.specs.declared.serving.Serving.TheVariants.{Must}
use Rattle.fbc_downgrade.specs.Serving.{Serves}

-- The write of a page for the asker, and the lowering of the page to what may be kept.
abbrev pub write_for : Callback → ℕ → Ask
write_for callback page = ask.Write page (CallbackOf callback.asker)

abbrev pub lowering_for : Callback → Ask
lowering_for callback = ask.Lower (page_resource callback.page) callback.keep

-- The cache after that write.
abbrev pub after_writing : CacheState → Callback → ℕ → CacheState
after_writing c callback page = after_take c (write_for callback page) Written None

-- The callback is served by so many writes in turn, and leaves this cache.
pub data Writes (callback : Callback) : CacheState → ℕ → CacheState → Type 0 where
  none : (c : CacheState) → Writes callback c 0 c
  more : (c : CacheState) (page count : ℕ) (after : CacheState)
      → Serves c callback (Must (write_for callback page))
      → Writes callback (after_writing c callback page) count after
      → Writes callback c (suc count) after

-- The dirty ones among the page and those that are to be written before it are all in the list.
abbrev pub HasDirtyBefore : CacheState → ℕ → List ℕ → Type 0
HasDirtyBefore c page pages = (other : ℕ) → IsAtOrBefore c.pairs other page → is_dirty_in c.held other ≡ true → has pages other ≡ true

-- The step is a write for the asker, or the lowering.
abbrev pub WritesOrLowers : Callback → Ask → Type 0
WritesOrLowers callback asked = ((page : ℕ) × (asked ≡ write_for callback page)) ⊎ (asked ≡ lowering_for callback)
