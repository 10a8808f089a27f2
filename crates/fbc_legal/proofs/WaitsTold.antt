-- What ranked waits tell of the parts of a history.
use Rattle.std.proofs.Common.{◌≡◌, ◌⊎◌, inl, inr, ℕ, true, Some, sym, subst}
use Rattle.fbc_kinds.specs.declared.shapes.Shape.{Shape}
use Rattle.fbc_kinds.specs.View.{View}
use Rattle.fbc_levels.specs.declared.levels.Level.{Level}
use Rattle.fbc_levels.specs.declared.levels.Level.TheVariants.{Ex, Pr}
use Rattle.fbc_levels.specs.declared.resources.Resource.{Resource}
use Rattle.fbc_levels.specs.LockState.{IsBlocked, LockState}
use Rattle.fbc_world.specs.History.{History}
use Rattle.fbc_levels.specs.Resources.{page_resource}
use Rattle.fbc_world.specs.Locks.{locks_of, waiting}
use Rattle.fbc_world.specs.Owners.{granted, is_alive}
use Rattle.fbc_world.specs.World.{World, world_of}
use Rattle.fbc_world.proofs.WorldLaws.{IsReplayed, IsReplayed-world}
use Rattle.fbc_legal.specs.Circles.{HasJustAsked}
use Rattle.fbc_legal.specs.Legal.{IsLegal}
use Rattle.fbc_legal.specs.Ranks.{WaitsUpward}
use Rattle.fbc_legal.specs.Scene.{scene_of}
use Rattle.fbc_legal.proofs.AtOnce.{not_blocked, unblocked-just}
use Rattle.fbc_legal.proofs.Ranked.{IsRanked, IsRanked-legal}
use Rattle.fbc_legal.proofs.Told.{in_use}
use Rattle.fbc_legal.proofs.Waiters.{waits_in, waits_wanted}

module _ (shape : Shape) (file : View) (history : History) (legal : IsLegal shape file history) where
  abbrev w : World
  w = world_of shape file history

  h : IsRanked (scene_of shape file history)
  h = IsRanked-legal shape file history legal

  r : IsReplayed shape file history w
  r = IsReplayed-world shape file history

  pub pin_alive : (owner page : ℕ) → w.is_pinned owner page ≡ true → is_alive history owner ≡ true
  pin_alive owner page pinned = rw (← r.alive_is owner) (h.pins owner page pinned).alive

  pub pin_level : (owner page : ℕ) → w.is_pinned owner page ≡ true → (granted history owner (page_resource page) ≡ Pr) ⊎ (granted history owner (page_resource page) ≡ Ex)
  pin_level owner page pinned = in_use _ (rw (← r.granted_is owner (page_resource page)) (h.pins owner page pinned).usable)

  pub upward : (owner : ℕ) (resource : Resource) (wanted : Level) → is_alive history owner ≡ true → waiting history owner resource ≡ Some wanted
      → WaitsUpward (scene_of shape file history) owner resource ⊎ HasJustAsked history owner resource
  upward owner resource wanted alive waits =
      h.upward owner resource (rw (r.alive_is owner) alive) (subst (λ (s : LockState). waits_in s owner resource ≡ true) (sym r.locks_is) (waits_wanted owner resource (locks_of history) wanted waits))

  pub blocked_upward : (owner : ℕ) (resource : Resource) (wanted : Level) → is_alive history owner ≡ true → waiting history owner resource ≡ Some wanted → IsBlocked (locks_of history) owner resource wanted
      → WaitsUpward (scene_of shape file history) owner resource
  blocked_upward owner resource wanted alive waits blocked = go (upward owner resource wanted alive waits) where
    go : WaitsUpward (scene_of shape file history) owner resource ⊎ HasJustAsked history owner resource → WaitsUpward (scene_of shape file history) owner resource
    go (inl up) = up
    go (inr just) = absurd (not_blocked (locks_of history) owner resource (unblocked-just history owner resource just) wanted waits blocked)
