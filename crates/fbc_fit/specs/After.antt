-- The fit of a cache after a history, and histories that go on by a lock that is asked for and granted.
use Rattle.std.specs.Prelude.{◌∷◌, ℕ, Bool}
use Rattle.fbc_kinds.specs.declared.shapes.Shape.{Shape}
use Rattle.fbc_kinds.specs.View.{View}
use Rattle.fbc_levels.specs.declared.levels.Level.{Level}
use Rattle.fbc_levels.specs.Resources.{page_resource}
use Rattle.fbc_world.specs.declared.events.Act.TheVariants as act
use Rattle.fbc_world.specs.History.{History, happens}
use Rattle.fbc_world.specs.World.{world_of}
use Rattle.fbc_cache.specs.Cache.{CacheState}
use Rattle.fbc_fit.specs.Fit.{Fits}

-- The cache fits what stands after the history.
abbrev pub FitsAfter : Shape → View → History → ℕ → CacheState → Type 0
FitsAfter shape file history owner c = Fits shape (world_of shape file history) owner c

-- The owner asks for the lock of a page.
abbrev pub with_ask : ℕ → ℕ → Level → Bool → ℕ → Bool → History → History
with_ask owner page level wait word landed history = happens owner (act.Ask (page_resource page) level wait word) landed ∷ history

-- The owner is granted the lock of a page.
abbrev pub with_grant : ℕ → ℕ → Level → Bool → History → History
with_grant owner page level landed history = happens owner (act.Grant (page_resource page) level) landed ∷ history
