-- How a callback is served over a history, while others act.
use Rattle.std.specs.Prelude.{◌≡◌, ◌≢◌, ◌∷◌, ℕ, suc, Bool, false, true}
use Rattle.fbc_kinds.specs.declared.shapes.Shape.{Shape}
use Rattle.fbc_kinds.specs.View.{View}
use Rattle.fbc_levels.specs.declared.levels.Level.{Level}
use Rattle.fbc_levels.specs.declared.resources.Callback.{Callback}
use Rattle.fbc_levels.specs.declared.resources.Resource.{Resource}
use Rattle.fbc_world.specs.declared.asks.Cause.TheVariants.{CallbackOf}
use Rattle.fbc_world.specs.declared.events.Act.TheVariants as act
use Rattle.fbc_world.specs.History.{History, Moment, happens}
use Rattle.fbc_world.specs.Owners.{is_alive}
use Rattle.fbc_world.specs.World.{world_of}
use Rattle.fbc_legal.specs.Causes.{IsPolled}
use Rattle.fbc_cache.specs.Cache.{CacheState, IsCache}
use Rattle.fbc_fit.specs.Fit.{Fits}
use Rattle.fbc_downgrade.specs.declared.serving.Serving.TheVariants.{Must}
use Rattle.fbc_downgrade.specs.Ending.{after_writing, write_for}
use Rattle.fbc_downgrade.specs.Serving.{Serves}

-- The write of the page for the asker, as it happens.
abbrev pub written_for : ℕ → Callback → ℕ → Bool → Moment
written_for owner callback page landed = happens owner (act.Write page (CallbackOf callback.asker) false) landed

-- The owner serves the callback by so many writes in turn. Between them others act, and what it waits for may be granted. The history
-- goes on from the first one to the second, and the cache likewise.
pub data ServesOver (owner : ℕ) (callback : Callback) : History → CacheState → ℕ → History → CacheState → Type 0 where
  none : (history : History) (c : CacheState) → ServesOver owner callback history c 0 history c
  writes : (history later : History) (c after : CacheState) (page count : ℕ) (landed : Bool)
      → Serves c callback (Must (write_for callback page))
      → ServesOver owner callback (written_for owner callback page landed ∷ history) (after_writing c callback page) count later after
      → ServesOver owner callback history c (suc count) later after
  others : (history later : History) (c after : CacheState) (moment : Moment) (count : ℕ)
      → moment.event.actor ≢ owner
      → ServesOver owner callback (moment ∷ history) c count later after
      → ServesOver owner callback history c count later after
  grants : (history later : History) (c after : CacheState) (resource : Resource) (count : ℕ) (level : Level) (landed : Bool)
      → ServesOver owner callback (happens owner (act.Grant resource level) landed ∷ history) c count later after
      → ServesOver owner callback history c count later after

-- The owner is alive, its cache fits, and its last poll answered the callback.
pub record MayServe (shape : Shape) (file : View) (owner : ℕ) (callback : Callback) (history : History) (c : CacheState) : Type 0 where
  pub alive : is_alive history owner ≡ true
  pub cache : IsCache c
  pub fits : Fits shape (world_of shape file history) owner c
  pub polled : IsPolled owner callback history
