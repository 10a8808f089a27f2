-- A page that is served may be given up.
use Rattle.std.proofs.Common.{◌≡◌, inl, inr, true, false, ◌||◌, Option, Some, None, IfSome, is_none, sym, subst, refl, arith}
use Rattle.std.proofs.lemmas.Bool.Decides.{nat_tests}
use Rattle.std.specs.Option.{option_map_or}
use Rattle.fbc_kinds.specs.declared.shapes.Shape.{Shape}
use Rattle.fbc_levels.specs.declared.levels.Level.{Level}
use Rattle.fbc_levels.specs.declared.levels.Level.TheVariants.{Free, Pr}
use Rattle.fbc_levels.specs.declared.resources.Callback.{Callback}
use Rattle.fbc_levels.specs.Levels.{is_free, is_page_level}
use Rattle.fbc_buffers.specs.declared.buffers.Buffer.{Buffer}
use Rattle.fbc_buffers.specs.Holding.{buffer_of}
use Rattle.fbc_cache.specs.Cache.{CacheState, HasLevel, IsBuffer, IsCache, level_in}
use Rattle.fbc_cache.specs.Wants.{MayGiveUp, is_part}
use Rattle.fbc_cache.proofs.HeldPairs.{found-is}
use Rattle.fbc_downgrade.specs.Serving.{IsKeep, IsServed, is_above}

-- No lock at all is above nothing.
free-below : (keep : Level) → is_above Free keep ≡ true → ⊥
free-below keep above = grind (arith, nat_tests, above)

-- A page that is held in a level above another is no more waited for, and held in one of the two page levels.
record IsHeld (level : Level) (wanted : Option Level) : Type 0 where
  granted : is_none wanted ≡ true
  fits : is_page_level level ≡ true

held-above : (level keep : Level) (wanted : Option Level) → HasLevel level wanted → is_above level keep ≡ true → IsHeld level wanted
held-above level keep None has above = record { granted = refl; fits = has }
held-above level keep (Some wanted) has above = absurd (free-below keep (subst (λ l. is_above l keep ≡ true) has.0 above))

granted-above : (shape : Shape) (keep : Level) (found : Option Buffer) → IfSome found (IsBuffer shape) → is_above (option_map_or (λ (b : Buffer). b.level) found Free) keep ≡ true → option_map_or (λ (b : Buffer). is_none b.wanted) found false ≡ true
granted-above shape keep None is above = absurd (free-below keep above)
granted-above shape keep (Some b) is above = (held-above b.level keep b.wanted is.level above).granted

fits-above : (shape : Shape) (keep : Level) (found : Option Buffer) → IfSome found (IsBuffer shape) → is_above (option_map_or (λ (b : Buffer). b.level) found Free) keep ≡ true → is_page_level (option_map_or (λ (b : Buffer). b.level) found Free) ≡ true
fits-above shape keep None is above = absurd (free-below keep above)
fits-above shape keep (Some b) is above = (held-above b.level keep b.wanted is.level above).fits

-- What may be kept of a page is a part of each page level above it.
keep-part : (level keep : Level) → IsKeep keep → is_page_level level ≡ true → is_above level keep ≡ true → is_part keep level ≡ true
keep-part level keep (inl free) fits above = subst (λ k. is_part k level ≡ true) (sym free) refl
keep-part level keep (inr pr) fits above = subst (λ k. is_part k level ≡ true) (sym pr) (part level fits) where
  part : (level : Level) → is_page_level level ≡ true → is_part Pr level ≡ true
  part level fits = grind (arith, nat_tests, fits)

keep-fits : (keep : Level) → IsKeep keep → (is_free keep || is_page_level keep) ≡ true
keep-fits keep (inl free) = subst (λ k. (is_free k || is_page_level k) ≡ true) (sym free) refl
keep-fits keep (inr pr) = subst (λ k. (is_free k || is_page_level k) ≡ true) (sym pr) refl

pub may-give_up : (c : CacheState) (callback : Callback) → IsCache c → IsKeep callback.keep → IsServed c callback → MayGiveUp c callback.page callback.keep
may-give_up c callback is keep served = record {
  granted = granted-above c.shape callback.keep (buffer_of c.held callback.page) found served.above;
  loose = served.loose;
  usable = keep-fits callback.keep keep;
  part = keep-part (level_in c.held callback.page) callback.keep keep (fits-above c.shape callback.keep (buffer_of c.held callback.page) found served.above) served.above;
} where
  found : IfSome (buffer_of c.held callback.page) (IsBuffer c.shape)
  found = found-is (IsBuffer c.shape) c.held callback.page is.buffers
