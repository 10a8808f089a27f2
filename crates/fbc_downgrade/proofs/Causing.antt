-- The write and the lowering that a callback comes to.
use Rattle.std.proofs.Common.{◌≡◌, inl, inr, ℕ}
use Rattle.fbc_levels.specs.declared.levels.Level.{Level}
use Rattle.fbc_levels.specs.declared.resources.Callback.{Callback}
use Rattle.fbc_levels.specs.declared.resources.Resource.{Resource}
use Rattle.fbc_world.specs.declared.asks.Ask.TheVariants as ask
use Rattle.fbc_world.specs.declared.asks.Cause.{Cause}
use Rattle.fbc_world.specs.declared.asks.Cause.TheVariants.{CallbackOf}
use Rattle.fbc_levels.specs.Resources.{page_resource}
use Rattle.fbc_cache.specs.Cache.{CacheState}
use Rattle.fbc_downgrade.specs.Serving.{Downgrades}

same-cause : (page next : ℕ) (cause other : Cause) → ask.Write page cause ≡ ask.Write next other → cause ≡ other
same-cause page next cause other is = cc

-- A write has the callback as its cause.
pub cause-is : (c : CacheState) (callback : Callback) (page : ℕ) (cause : Cause) → Downgrades c callback (ask.Write page cause) → cause ≡ CallbackOf callback.asker
cause-is c callback page cause (inl write) = same-cause page write.1.next cause (CallbackOf callback.asker) write.1.is_write
cause-is c callback page cause (inr lowering) = let wrong = lowering.1 in absurd (cc)

-- A lowering is of the page, to what may be kept.
pub record IsItsLowering (callback : Callback) (resource : Resource) (level : Level) : Type 0 where
  pub page : resource ≡ page_resource callback.page
  pub keep : level ≡ callback.keep

parts : (resource other : Resource) (level keep : Level) → ask.Lower resource level ≡ ask.Lower other keep → (resource ≡ other) × (level ≡ keep)
parts resource other level keep is = (cc, cc)

pub lowering-is : (c : CacheState) (callback : Callback) (resource : Resource) (level : Level) → Downgrades c callback (ask.Lower resource level) → IsItsLowering callback resource level
lowering-is c callback resource level (inl write) = let wrong = write.1.is_write in absurd (cc)
lowering-is c callback resource level (inr lowering) =
    let both = parts resource (page_resource callback.page) level callback.keep lowering.1 in
    record { page = both.0; keep = both.1 }
