-- How a page is given up, or held in a lower level.
use Rattle.std.specs.Prelude.{◌≡◌, ◌⊎◌, ℕ, true, List}
use Rattle.fbc_levels.specs.declared.levels.Level.{Level}
use Rattle.fbc_kinds.specs.declared.edges.Edge.{Edge}
use Rattle.fbc_precedence.specs.Precedence.{IsBlocked, IsNextToWrite}
use Rattle.fbc_world.specs.declared.asks.Ask.{Ask}
use Rattle.fbc_world.specs.declared.asks.Ask.TheVariants as ask
use Rattle.fbc_world.specs.declared.asks.Cause.{Cause}
use Rattle.fbc_levels.specs.Resources.{page_resource}
use Rattle.fbc_cache.specs.Cache.{CacheState, is_dirty_in}

-- The page is to be written, or some page before it.
abbrev pub IsUnsettled : CacheState → ℕ → Type 0
IsUnsettled c page = (is_dirty_in c.held page ≡ true) ⊎ IsBlocked c.pairs page

-- The next write in order, among the page and those that are to be written before it.
pub record IsWriteFor (pairs : List Edge) (page : ℕ) (cause : Cause) (asked : Ask) : Type 0 where
  pub next : ℕ
  pub is_next : IsNextToWrite pairs page next
  pub is_write : asked ≡ ask.Write next cause

-- The page is written, after those before it, and then held in this level or given up.
abbrev pub GivesUp : CacheState → ℕ → Cause → Level → Ask → Type 0
GivesUp c page cause level asked =
    (IsUnsettled c page × IsWriteFor c.pairs page cause asked)
    ⊎ ((¬ IsUnsettled c page) × (asked ≡ ask.Lower (page_resource page) level))
