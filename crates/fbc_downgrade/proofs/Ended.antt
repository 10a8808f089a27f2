-- A callback that is served ends with the lowering.
use Rattle.std.proofs.Common.{◌≡◌, inl, inr, ℕ, ◌∙◌, sym, ap, subst, refl}
use Rattle.fbc_levels.specs.declared.resources.Callback.{Callback}
use Rattle.fbc_world.specs.declared.asks.Ask.{Ask}
use Rattle.fbc_cache.specs.Cache.{CacheState, IsCache}
use Rattle.fbc_downgrade.specs.declared.serving.Serving.{Serving}
use Rattle.fbc_downgrade.specs.declared.serving.Serving.TheVariants.{Done, Later, Must}
use Rattle.fbc_downgrade.specs.Ending.{Writes, WritesOrLowers, after_writing, more, none}
use Rattle.fbc_downgrade.specs.Serving.{Downgrades, IsServed, Serves, is_above}
use Rattle.fbc_downgrade.proofs.Written.{IsDueWrite, cache-after, due-write, level-stays, pin-stays, write-done}

-- A write leaves pins and levels.
served-after : (c : CacheState) (callback : Callback) (page : ℕ) → IsCache c → IsDueWrite c callback.page page → IsServed c callback → IsServed (after_writing c callback page) callback
served-after c callback page is write served = subst (λ s. IsServed s callback) (sym (write-done c callback page is write)) (record {
  loose = pin-stays c.held page callback.page ∙ served.loose;
  above = ap (λ level. is_above level callback.keep) (level-stays c.held page callback.page) ∙ served.above;
})

served-still : (callback : Callback) (c after : CacheState) (count : ℕ) → IsCache c → IsServed c callback → Writes callback c count after → IsServed after callback
served-still callback _ _ _ is served (none c) = served
served-still callback _ _ _ is served (more c page count after serves rest) =
    let write : IsDueWrite c callback.page page = due-write c callback page serves.1 in
    served-still callback (after_writing c callback page) after count (cache-after c callback page is write) (served-after c callback page is write served) rest

-- What is due of a callback that is served is a write for the asker or the lowering.
due-step : (c : CacheState) (callback : Callback) (asked : Ask) → Downgrades c callback asked → WritesOrLowers callback asked
due-step c callback asked (inl write) = inl (write.1.next, write.1.is_write)
due-step c callback asked (inr lowering) = inr lowering.1

must-step : (c : CacheState) (callback : Callback) (serving : Serving) → IsServed c callback → Serves c callback serving → (asked : Ask) × (serving ≡ Must asked) × WritesOrLowers callback asked
must-step c callback Later served serves = let loose = served.loose in absurd (cc)
must-step c callback Done served serves = let above = served.above in let below = serves.above in absurd (cc)
must-step c callback (Must asked) served serves = (asked, refl, due-step c callback asked serves.1)

pub ends-lowering : (c after : CacheState) (callback : Callback) (count : ℕ) (serving : Serving) → IsCache c → IsServed c callback → Writes callback c count after → Serves after callback serving → (asked : Ask) × (serving ≡ Must asked) × WritesOrLowers callback asked
ends-lowering c after callback count serving is served writes serves = must-step after callback serving (served-still callback c after count is served writes) serves
