-- Who has a page pinned is alive and may use it, after each event.
use Rattle.std.proofs.Common.{◌≡◌, ℕ, Bool, true, false, ◌==◌, ◌&&◌, if◌then◌else◌, refl, arith}
use Rattle.std.proofs.lemmas.Bool.Decides.{nat_tests}
use Rattle.fbc_levels.specs.declared.levels.Level.{Level}
use Rattle.fbc_levels.specs.declared.levels.Level.TheVariants.{Free}
use Rattle.fbc_levels.specs.declared.resources.Resource.{Resource}
use Rattle.fbc_levels.specs.Resources.{is_same_resource, page_resource}
use Rattle.fbc_levels.specs.LockState.{LockState}
use Rattle.fbc_lock_table.proofs.Ways.{same_resource}
use Rattle.fbc_world.specs.declared.events.Act.{Act}
use Rattle.fbc_world.specs.declared.events.Act.TheVariants.{Die, Enter, Grant, Leave, Local, Lower, Opened, Reap, Write}
use Rattle.fbc_world.specs.declared.events.LocalEvent.TheVariants as local
use Rattle.fbc_world.specs.World.{World, acted, dead, written}
use Rattle.fbc_legal.specs.Guards.{Guard, GuardOfGrant, GuardOfLower, GuardOfPin}
use Rattle.fbc_legal.specs.Legal.{MayAct}
use Rattle.fbc_legal.specs.Scene.{Scene}
use Rattle.fbc_legal.specs.Coherent.{IsCoherent}
use Rattle.fbc_levels.specs.Levels.{is_page_level}
use Rattle.fbc_legal.proofs.Exclusion.{AreRequestsTrue, usable, waits_bare}

-- The pin's owner is alive, and may use the page.
pub record IsPinHeld (w : World) (owner page : ℕ) : Type 0 where
  pub alive : w.is_alive owner ≡ true
  pub usable : is_page_level (w.granted owner (page_resource page)) ≡ true

abbrev pub PinsAreHeld : World → Type 0
PinsAreHeld w = (owner page : ℕ) → w.is_pinned owner page ≡ true → IsPinHeld w owner page

pub clash : (b : Bool) → b ≡ false → b ≡ true → ⊥
clash true e h = cc
clash false e h = cc

module _ (w : World) (h : PinsAreHeld w) where
  pub pins-dead : (locks : LockState) (owner : ℕ) → PinsAreHeld (record (dead w owner) { locks = locks })
  pins-dead locks owner other page pinned = go (other == owner) refl pinned where
    go : (b : Bool) → other == owner ≡ b → (if b then false else w.is_pinned other page) ≡ true → IsPinHeld (record (dead w owner) { locks = locks }) other page
    go true its is = absurd cc
    go false its is =
        let held = h other page is in
        record { alive = rw its held.alive; usable = held.usable }

  pins-leave : (owner : ℕ) → ((page : ℕ) → w.is_pinned owner page ≡ false) → (other page : ℕ) → w.is_pinned other page ≡ true → (if other == owner then false else w.is_alive other) ≡ true
  pins-leave owner none other page pinned = grind (arith, nat_tests, none page, pinned, h other page pinned)

  pins-reap : (gone other page : ℕ) → w.is_alive gone ≡ false → w.is_pinned other page ≡ true → is_page_level (if other == gone then Free else w.granted other (page_resource page)) ≡ true
  pins-reap gone other page is_dead pinned = grind (arith, nat_tests, is_dead, h other page pinned)

module _ (at : Scene) (h : PinsAreHeld at.world) (x : IsCoherent at.world) (t : AreRequestsTrue at.world) (owner : ℕ) where
  abbrev w : World
  w = at.world

  module _ (resource : Resource) (level : Level) (other page : ℕ) (pinned : w.is_pinned other page ≡ true) where
    -- A changed level is not that of a pinned page.
    abbrev UsableAs : Bool → Type 0
    UsableAs b = is_page_level (if b then level else w.granted other (page_resource page)) ≡ true

    elsewhere : ((other ≡ owner) → resource ≡ page_resource page → ⊥) → UsableAs ((other == owner) && is_same_resource resource (page_resource page))
    elsewhere never = go (other == owner) refl (is_same_resource resource (page_resource page)) refl where
      go : (a : Bool) → other == owner ≡ a → (b : Bool) → is_same_resource resource (page_resource page) ≡ b → UsableAs (a && b)
      go true its true same = absurd (never (grind (arith, nat_tests, its)) (same_resource resource (page_resource page) same))
      go true its false same = (h other page pinned).usable
      go false its b same = (h other page pinned).usable

    granting : GuardOfGrant at owner resource level → other ≡ owner → resource ≡ page_resource page → ⊥
    granting g its same = clash _ (rw (waits_bare w x t owner page level (rw same at g.wanted)) refl) (rw its at (h other page pinned).usable)

    lowering : GuardOfLower at owner resource level → other ≡ owner → resource ≡ page_resource page → ⊥
    lowering g its same = clash _ (rw same at g.by_series).unpinned (rw its at pinned)

  pins-pin : (page : ℕ) → w.is_alive owner ≡ true → GuardOfPin at owner page → (other p : ℕ) → (if (other == owner) && (p == page) then true else w.is_pinned other p) ≡ true → IsPinHeld w other p
  pins-pin page lives g other p pinned = go (other == owner) refl (p == page) refl pinned where
    go : (a : Bool) → other == owner ≡ a → (b : Bool) → p == page ≡ b → (if a && b then true else w.is_pinned other p) ≡ true → IsPinHeld w other p
    go true its true same is =
        let o : other ≡ owner = grind (arith, nat_tests, its) in
        let q : p ≡ page = grind (arith, nat_tests, same) in
        rw (o, q) (record { alive = lives; usable = usable _ g.held })
    go true its false same is = h other p is
    go false its b same is = h other p is

  pins-unpin : (page other p : ℕ) → (if (other == owner) && (p == page) then false else w.is_pinned other p) ≡ true → w.is_pinned other p ≡ true
  pins-unpin page other p pinned = grind (arith, pinned)

  pins-written : (page : ℕ) → PinsAreHeld (written w owner page)
  pins-written page other p pinned =
      let held = h other p pinned in
      record { alive = held.alive; usable = held.usable }

  come : (other page : ℕ) → IsPinHeld w other page → (if other == owner then true else w.is_alive other) ≡ true
  come other page held = grind (arith, held.alive)

  pub pins-acted : (act : Act) (landed : Bool) → MayAct at owner act → Guard at owner act → PinsAreHeld (acted at.shape w owner act landed)
  pins-acted (Opened locks) landed lives g other page pinned = absurd (clash _ (g.none_alive other) (h other page pinned).alive)
  pins-acted (Enter buffers name) landed lives g other page pinned =
      let held = h other page pinned in
      record { alive = come other page held; usable = held.usable }
  pins-acted Leave landed lives g other page pinned = record { alive = pins-leave w h owner g.pins other page pinned; usable = (h other page pinned).usable }
  pins-acted Die landed lives g other page pinned = pins-dead w h _ owner other page pinned
  pins-acted (Grant resource level) landed lives g other page pinned =
      record { alive = (h other page pinned).alive; usable = elsewhere resource level other page pinned (granting resource level other page pinned g) }
  pins-acted (Lower resource level) landed lives g other page pinned =
      record { alive = (h other page pinned).alive; usable = elsewhere resource level other page pinned (lowering resource level other page pinned g) }
  pins-acted (Reap gone by) landed lives g other page pinned = record { alive = (h other page pinned).alive; usable = pins-reap w h gone other page g.is_dead pinned }
  pins-acted (Write number reason true) true lives g other page pinned = pins-dead (written w owner number) (pins-written number) _ owner other page pinned
  pins-acted (Write number reason true) false lives g other page pinned = pins-dead w h _ owner other page pinned
  pins-acted (Write number reason false) landed lives g other page pinned =
      let held = h other page pinned in
      record { alive = held.alive; usable = held.usable }
  pins-acted (Local (local.Edit number edit)) landed lives g other page pinned =
      let held = h other page pinned in
      record { alive = held.alive; usable = held.usable }
  pins-acted (Local (local.Before high low)) landed lives g other page pinned =
      let held = h other page pinned in
      record { alive = held.alive; usable = held.usable }
  pins-acted (Local (local.Pin number)) landed lives g other page pinned =
      let held = pins-pin number lives g other page pinned in
      record { alive = held.alive; usable = held.usable }
  pins-acted (Local (local.Unpin number)) landed lives g other page pinned =
      let held = h other page (pins-unpin number other page pinned) in
      record { alive = held.alive; usable = held.usable }
  pins-acted _ landed lives g other page pinned =
      let held = h other page pinned in
      record { alive = held.alive; usable = held.usable }
