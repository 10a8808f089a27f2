-- Each part of what stands after an act is the step of that part.
use Rattle.std.proofs.Common.{◌≡◌, ◌==◌, ℕ, Bool, true, false, Option, Some, None, if◌then◌else◌, refl, arith}
use Rattle.std.proofs.lemmas.Bool.Decides.{nat_tests}
use Rattle.fbc_kinds.specs.declared.shapes.Shape.{Shape}
use Rattle.fbc_levels.specs.declared.resources.Resource.{Resource}
use Rattle.fbc_world.specs.declared.drafts.Draft.{Draft}
use Rattle.fbc_world.specs.declared.events.Act.{Act}
use Rattle.fbc_world.specs.declared.events.Act.TheVariants.{Local, Lower, Read, Write}
use Rattle.fbc_world.specs.declared.events.LocalEvent.TheVariants as local
use Rattle.fbc_world.specs.History.{happens}
use Rattle.fbc_world.specs.Locks.{locks_step}
use Rattle.fbc_world.specs.Owners.{alive_step, granted_step}
use Rattle.fbc_world.specs.PageCell.{copy_step, draft_step, kept_step, without}
use Rattle.fbc_world.specs.World.{World, acted}
use Rattle.fbc_world.specs.WriteOrder.{pair_step}

without-twice : (owner : ℕ) (draft : Option Draft) → without owner (without owner draft) ≡ without owner draft
without-twice owner None = refl
without-twice owner (Some draft) = go (draft.owner == owner) refl where
  go : (b : Bool) → draft.owner == owner ≡ b → without owner (if b then None else Some draft) ≡ (if b then None else Some draft)
  go true e = refl
  go false e = grind (arith, nat_tests, e)

module _ (shape : Shape) (w : World) (owner : ℕ) where
  pub kept-acted : (act : Act) (landed : Bool) (page : ℕ) → (acted shape w owner act landed).kept page ≡ kept_step page (w.kept page) (w.draft page) owner act landed
  kept-acted (Write number cause false) landed page = grind (arith, nat_tests)
  kept-acted (Write number cause true) true page = grind (arith, nat_tests)
  kept-acted (Write number cause true) false page = grind (arith, nat_tests)
  kept-acted (Local (local.Edit number edit)) landed page = refl
  kept-acted (Local (local.Before high low)) landed page = refl
  kept-acted (Local (local.Pin number)) landed page = refl
  kept-acted (Local (local.Unpin number)) landed page = refl
  kept-acted _ landed page = refl

  pub draft-acted : (act : Act) (landed : Bool) (page : ℕ) → (acted shape w owner act landed).draft page ≡ draft_step shape page (w.kept page) (w.draft page) owner act
  draft-acted (Write number cause false) landed page = grind (arith, nat_tests)
  draft-acted (Write number cause true) true page = grind (arith, nat_tests, without-twice owner (w.draft page))
  draft-acted (Write number cause true) false page = grind (arith, nat_tests)
  draft-acted (Local (local.Edit number edit)) landed page = grind (arith, nat_tests)
  draft-acted (Local (local.Before high low)) landed page = refl
  draft-acted (Local (local.Pin number)) landed page = refl
  draft-acted (Local (local.Unpin number)) landed page = refl
  draft-acted _ landed page = refl

  pub copy-acted : (act : Act) (landed : Bool) (other page : ℕ)
      → (acted shape w owner act landed).copy other page ≡ copy_step shape other page (w.copy other page) (record { kept = w.kept page; draft = w.draft page }) (happens owner act landed)
  copy-acted (Read number fault) landed other page = grind (arith, nat_tests)
  copy-acted (Lower resource level) landed other page = grind (arith, nat_tests)
  copy-acted (Write number cause false) landed other page = grind (arith, nat_tests)
  copy-acted (Write number cause true) true other page = grind (arith, nat_tests)
  copy-acted (Write number cause true) false other page = grind (arith, nat_tests)
  copy-acted (Local (local.Edit number edit)) landed other page = grind (arith, nat_tests)
  copy-acted (Local (local.Before high low)) landed other page = grind (arith, nat_tests)
  copy-acted (Local (local.Pin number)) landed other page = grind (arith, nat_tests)
  copy-acted (Local (local.Unpin number)) landed other page = grind (arith, nat_tests)
  copy-acted _ landed other page = grind (arith, nat_tests)

  pub granted-acted : (act : Act) (landed : Bool) (other : ℕ) (resource : Resource) → (acted shape w owner act landed).granted other resource ≡ granted_step other resource (w.granted other resource) owner act
  granted-acted (Write number cause false) landed other resource = refl
  granted-acted (Write number cause true) true other resource = refl
  granted-acted (Write number cause true) false other resource = refl
  granted-acted (Local (local.Edit number edit)) landed other resource = refl
  granted-acted (Local (local.Before high low)) landed other resource = refl
  granted-acted (Local (local.Pin number)) landed other resource = refl
  granted-acted (Local (local.Unpin number)) landed other resource = refl
  granted-acted _ landed other resource = grind (arith, nat_tests)

  pub pairs-acted : (act : Act) (landed : Bool) (other high low : ℕ) → (acted shape w owner act landed).has_pair other high low ≡ pair_step other high low (w.has_pair other high low) owner act landed
  pairs-acted (Write number cause false) landed other high low = grind (arith, nat_tests)
  pairs-acted (Write number cause true) true other high low = grind (arith, nat_tests)
  pairs-acted (Write number cause true) false other high low = grind (arith, nat_tests)
  pairs-acted (Local (local.Edit number edit)) landed other high low = refl
  pairs-acted (Local (local.Before above below)) landed other high low = grind (arith, nat_tests)
  pairs-acted (Local (local.Pin number)) landed other high low = refl
  pairs-acted (Local (local.Unpin number)) landed other high low = refl
  pairs-acted _ landed other high low = grind (arith, nat_tests)

  pub alive-acted : (act : Act) (landed : Bool) (other : ℕ) → (acted shape w owner act landed).is_alive other ≡ (if owner == other then alive_step (w.is_alive other) act else w.is_alive other)
  alive-acted (Write number cause false) landed other = grind (arith, nat_tests)
  alive-acted (Write number cause true) true other = grind (arith, nat_tests)
  alive-acted (Write number cause true) false other = grind (arith, nat_tests)
  alive-acted (Local (local.Edit number edit)) landed other = grind (arith, nat_tests)
  alive-acted (Local (local.Before high low)) landed other = grind (arith, nat_tests)
  alive-acted (Local (local.Pin number)) landed other = grind (arith, nat_tests)
  alive-acted (Local (local.Unpin number)) landed other = grind (arith, nat_tests)
  alive-acted _ landed other = grind (arith, nat_tests)

  pub locks-acted : (act : Act) (landed : Bool) → (acted shape w owner act landed).locks ≡ locks_step w.locks owner act
  locks-acted act landed = refl
