-- What stands for one owner after an act of another.
use Rattle.std.proofs.Common.{◌≡◌, ◌≢◌, ◌∙◌, ap, refl, ℕ, Bool, true, false, Option, Some, arith}
use Rattle.std.proofs.lemmas.Bool.Decides.{nat_tests}
use Rattle.fbc_kinds.specs.declared.shapes.Shape.{Shape}
use Rattle.fbc_levels.specs.declared.resources.Resource.{Resource}
use Rattle.fbc_world.specs.declared.drafts.Draft.{Draft}
use Rattle.fbc_world.specs.declared.events.Act.{Act}
use Rattle.fbc_world.specs.declared.events.Act.TheVariants.{Die, Enter, Grant, Local, Lower, Opened, Reap, Write}
use Rattle.fbc_world.specs.declared.events.LocalEvent.TheVariants as local
use Rattle.fbc_world.specs.Frames.{is_edit_of, is_landing_of, is_purge_of, requests_of}
use Rattle.fbc_world.specs.Owners.{granted_step}
use Rattle.fbc_world.specs.PageCell.{draft_step, without}
use Rattle.fbc_world.specs.World.{World, acted}
use Rattle.fbc_world.specs.WriteOrder.{pair_step}
use Rattle.fbc_world.proofs.FrameLaws.{requests-frame}
use Rattle.fbc_world.proofs.WorldSteps.{alive-acted, copy-acted, draft-acted, granted-acted, locks-acted, pairs-acted}

-- A draft of another owner is not without its draft.
without-other : (owner : ℕ) (d : Draft) → owner ≢ d.owner → without owner (Some d) ≡ Some d
without-other owner d apart = grind (arith, nat_tests, apart)

module _ (shape : Shape) (w : World) (owner other : ℕ) (apart : owner ≢ other) where
  pub copy-frame : (act : Act) (landed : Bool) (page : ℕ) → (acted shape w owner act landed).copy other page ≡ w.copy other page
  copy-frame act landed page = copy-acted shape w owner act landed other page ∙ grind (arith, nat_tests, apart)

  pub alive-frame : (act : Act) (landed : Bool) → (acted shape w owner act landed).is_alive other ≡ w.is_alive other
  alive-frame act landed = alive-acted shape w owner act landed other ∙ grind (arith, nat_tests, apart)

  pub pin-frame : (act : Act) (landed : Bool) (page : ℕ) → (acted shape w owner act landed).is_pinned other page ≡ w.is_pinned other page
  pin-frame Die landed page = grind (arith, nat_tests, apart)
  pin-frame (Write number cause false) landed page = refl
  pin-frame (Write number cause true) true page = grind (arith, nat_tests, apart)
  pin-frame (Write number cause true) false page = grind (arith, nat_tests, apart)
  pin-frame (Local (local.Edit number edit)) landed page = refl
  pin-frame (Local (local.Before high low)) landed page = refl
  pin-frame (Local (local.Pin number)) landed page = grind (arith, nat_tests, apart)
  pin-frame (Local (local.Unpin number)) landed page = grind (arith, nat_tests, apart)
  pin-frame _ landed page = refl

  pub transaction-frame : (act : Act) (landed : Bool) → (acted shape w owner act landed).transaction other ≡ w.transaction other
  transaction-frame Die landed = grind (arith, nat_tests, apart)
  transaction-frame (Grant resource level) landed = grind (arith, nat_tests, apart)
  transaction-frame (Write number cause false) landed = grind (arith, nat_tests, apart)
  transaction-frame (Write number cause true) true = grind (arith, nat_tests, apart)
  transaction-frame (Write number cause true) false = grind (arith, nat_tests, apart)
  transaction-frame (Local (local.Edit number edit)) landed = grind (arith, nat_tests, apart)
  transaction-frame (Local (local.Before high low)) landed = refl
  transaction-frame (Local (local.Pin number)) landed = refl
  transaction-frame (Local (local.Unpin number)) landed = refl
  transaction-frame _ landed = refl

  pub mark-frame : (act : Act) (landed : Bool) → (acted shape w owner act landed).marked other ≡ w.marked other
  mark-frame Die landed = grind (arith, nat_tests, apart)
  mark-frame (Write number cause false) landed = grind (arith, nat_tests, apart)
  mark-frame (Write number cause true) true = grind (arith, nat_tests, apart)
  mark-frame (Write number cause true) false = grind (arith, nat_tests, apart)
  mark-frame (Local (local.Edit number edit)) landed = grind (arith, nat_tests, apart)
  mark-frame (Local (local.Before high low)) landed = refl
  mark-frame (Local (local.Pin number)) landed = refl
  mark-frame (Local (local.Unpin number)) landed = refl
  mark-frame _ landed = refl

  pub buffers-frame : (act : Act) (landed : Bool) → (acted shape w owner act landed).buffers other ≡ w.buffers other
  buffers-frame (Enter buffers name) landed = grind (arith, nat_tests, apart)
  buffers-frame (Write number cause false) landed = refl
  buffers-frame (Write number cause true) true = refl
  buffers-frame (Write number cause true) false = refl
  buffers-frame (Local (local.Edit number edit)) landed = refl
  buffers-frame (Local (local.Before high low)) landed = refl
  buffers-frame (Local (local.Pin number)) landed = refl
  buffers-frame (Local (local.Unpin number)) landed = refl
  buffers-frame _ landed = refl

  draft_stays : (act : Act) (page : ℕ) (d : Draft) → d.owner ≡ other → is_edit_of page act ≡ false → draft_step shape page (w.kept page) (Some d) owner act ≡ Some d
  draft_stays (Write number cause failed) page d is spared = grind (arith, nat_tests, apart, is)
  draft_stays Die page d is spared = grind (arith, nat_tests, apart, is)
  draft_stays (Local (local.Edit number edit)) page d is spared = grind (arith, nat_tests, spared)
  draft_stays (Local (local.Before high low)) page d is spared = refl
  draft_stays (Local (local.Pin number)) page d is spared = refl
  draft_stays (Local (local.Unpin number)) page d is spared = refl
  draft_stays _ page d is spared = refl

  pub draft-frame : (act : Act) (landed : Bool) (page : ℕ) (d : Draft) → w.draft page ≡ Some d → d.owner ≡ other → is_edit_of page act ≡ false → (acted shape w owner act landed).draft page ≡ Some d
  draft-frame act landed page d there is spared =
      draft-acted shape w owner act landed page ∙ ap (λ (draft : Option Draft). draft_step shape page (w.kept page) draft owner act) there ∙ draft_stays act page d is spared

  pair_stays : (act : Act) (landed : Bool) (high low : ℕ) (stands : Bool) → is_landing_of high act landed ≡ false → pair_step other high low stands owner act landed ≡ stands
  pair_stays (Write number cause failed) landed high low stands spared = grind (arith, nat_tests, apart, spared)
  pair_stays Die landed high low stands spared = grind (arith, nat_tests, apart)
  pair_stays (Local (local.Edit number edit)) landed high low stands spared = refl
  pair_stays (Local (local.Before above below)) landed high low stands spared = grind (arith, nat_tests, apart)
  pair_stays (Local (local.Pin number)) landed high low stands spared = refl
  pair_stays (Local (local.Unpin number)) landed high low stands spared = refl
  pair_stays _ landed high low stands spared = refl

  pub pair-frame : (act : Act) (landed : Bool) (high low : ℕ) → is_landing_of high act landed ≡ false → (acted shape w owner act landed).has_pair other high low ≡ w.has_pair other high low
  pair-frame act landed high low spared = pairs-acted shape w owner act landed other high low ∙ pair_stays act landed high low (w.has_pair other high low) spared

  pub granted-frame : (act : Act) (landed : Bool) (resource : Resource) → is_purge_of other act ≡ false → (acted shape w owner act landed).granted other resource ≡ w.granted other resource
  granted-frame act landed resource spared = granted-acted shape w owner act landed other resource ∙ stays act spared where
    stays : (act : Act) → is_purge_of other act ≡ false → granted_step other resource (w.granted other resource) owner act ≡ w.granted other resource
    stays (Opened locks) spared = absurd cc
    stays (Grant r level) spared = grind (arith, nat_tests, apart)
    stays (Lower r level) spared = grind (arith, nat_tests, apart)
    stays (Reap dead by) spared = grind (arith, nat_tests, spared)
    stays _ spared = refl

  pub own-requests-frame : (act : Act) (landed : Bool) → is_purge_of other act ≡ false → requests_of (acted shape w owner act landed).locks other ≡ requests_of w.locks other
  own-requests-frame act landed spared = ap (λ s. requests_of s other) (locks-acted shape w owner act landed) ∙ requests-frame owner other apart w.locks act spared
