-- What a buffer shows after its owner's waits end.
use Rattle.std.proofs.Common.{◌≡◌, ◌∙◌, ℕ, Bool, true, false, if◌then◌else◌, Option, Some, None, IfSome, is_some, refl, arith}
use Rattle.std.specs.Option.{option_map}
use Rattle.fbc_kinds.specs.declared.pages.Page.{Page}
use Rattle.fbc_kinds.specs.declared.shapes.Shape.{Shape}
use Rattle.fbc_levels.specs.declared.levels.Level.{Level}
use Rattle.fbc_levels.specs.declared.levels.Level.TheVariants.{Free}
use Rattle.fbc_levels.specs.declared.resources.Request.{Request}
use Rattle.fbc_lock_table.specs.Effects.{without_wait}
use Rattle.fbc_buffers.specs.declared.buffers.Buffer.{Buffer}
use Rattle.fbc_cache.specs.Cache.{IsBuffer}
use Rattle.fbc_fit.proofs.WaitingBuffers.{bare, clean, is_awaited, loose}
use Rattle.fbc_fit.proofs.Shown.{Shows, shows-request}

module _ (owner : ℕ) where
  abbrev pub ends : Request → Request
  ends = without_wait owner

  ended : (r : Request) → is_some r.waiting ≡ false → (ends r).waiting ≡ r.waiting
  ended r idle = go r.waiting refl where
    go : (waits : Option Level) → r.waiting ≡ waits → (ends r).waiting ≡ waits
    go None is = grind (arith, is)
    go (Some level) is = absurd (let no : true ≡ false = rw is at idle in cc)

  -- The page that was waited for, and another one.
  pub shows-withdrawn : (shape : Shape) (same : Bool) (asked : Option Request) (found : Option Buffer) → IfSome found (IsBuffer shape) → is_awaited found ≡ same → ((r : Request) → asked ≡ Some r → same ≡ false → is_some r.waiting ≡ false)
      → (granted : Level) → (same ≡ true → granted ≡ Free) → (copied : Option Page) (drafted pinned : Bool) → Shows granted asked copied drafted pinned found
      → Shows granted (option_map ends (if same then None else asked)) copied drafted pinned (if same then None else found)
  shows-withdrawn shape true asked None is awaited idle granted free copied drafted pinned shows = absurd (cc)
  shows-withdrawn shape true asked (Some b) is awaited idle granted free copied drafted pinned shows =
      record { lock = free refl; copy = shows.copy ∙ bare shape b is awaited; draft = shows.draft ∙ clean shape b is awaited; pin = shows.pin ∙ loose shape b is awaited }
  shows-withdrawn shape false None found is awaited idle granted free copied drafted pinned shows = shows
  shows-withdrawn shape false (Some r) found is awaited idle granted free copied drafted pinned shows =
      record { lock = shows-request r (ends r) (ended r (idle r refl refl)) granted found shows.lock; copy = shows.copy; draft = shows.draft; pin = shows.pin }
