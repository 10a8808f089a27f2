-- Who waits does so upward, or has just asked for what is granted at once, after each event.
use Rattle.std.proofs.Common.{◌≡◌, ◌⊎◌, inl, inr, ℕ, Bool, true, false, ◌==◌, if◌then◌else◌, ◌∷◌, None, refl, sym, arith}
use Rattle.std.proofs.lemmas.Bool.Decides.{nat_tests}
use Rattle.fbc_kinds.specs.declared.edits.Edit.{Edit}
use Rattle.fbc_levels.specs.declared.levels.Level.{Level}
use Rattle.fbc_levels.specs.declared.resources.Resource.{Resource}
use Rattle.fbc_levels.specs.LockState.{LockState, wait_of}
use Rattle.fbc_world.specs.declared.events.Act.{Act}
use Rattle.fbc_world.specs.declared.events.Act.TheVariants.{Ask, Die, Enter, Grant, Leave, Local, Lower, Opened, Reap, Withdraw, Write}
use Rattle.fbc_world.specs.declared.events.LocalEvent.TheVariants as local
use Rattle.fbc_world.specs.History.{happens}
use Rattle.fbc_world.specs.Holdings.{is_draft_of}
use Rattle.fbc_world.specs.Locks.{locks_of, locks_step}
use Rattle.fbc_world.specs.World.{World, acted, dead, page_after, pinned, with_edit, written}
use Rattle.fbc_legal.specs.Circles.{HasJustAsked}
use Rattle.fbc_legal.specs.Coherent.{IsCoherent}
use Rattle.fbc_legal.specs.Guards.{Guard, GuardOfAsk, GuardOfEdit, GuardOfEnter}
use Rattle.fbc_legal.specs.Lives.{entered}
use Rattle.fbc_legal.specs.Ranks.{WaitsUpward}
use Rattle.fbc_legal.specs.Scene.{Scene}
use Rattle.fbc_legal.proofs.Asking.{ComesTo, IsAskFor, ask-comes, waits-step}
use Rattle.fbc_legal.proofs.Came.{HaveCome}
use Rattle.fbc_legal.proofs.Exclusion.{same_number}
use Rattle.fbc_legal.proofs.HeaderGrowth.{RanksGrow, grows-acted}
use Rattle.fbc_legal.proofs.Pins.{PinsAreHeld, clash}
use Rattle.fbc_legal.proofs.RankOrder.{at_most-self}
use Rattle.fbc_legal.proofs.Rising.{StaysUpward, scene_in, stays-dead, stays-written, upward-stays}
use Rattle.fbc_legal.proofs.RisingEdits.{stays-edited}
use Rattle.fbc_legal.proofs.Waiters.{waits_free, waits_in}

module _ (at : Scene) (x : IsCoherent at.world) (pins : PinsAreHeld at.world) (grow : RanksGrow at.shape.size at.world) (came : HaveCome (entered at.past) at.world)
    (locks_is : at.world.locks ≡ locks_of at.past) (actor owner : ℕ) (resource : Resource) where
  abbrev w : World
  w = at.world

  abbrev IsUpwardIn : World → Type 0
  IsUpwardIn after = WaitsUpward (scene_in at after) owner resource

  -- The owner waits upward, if it lives and waits.
  abbrev Was : Type 0
  Was = w.is_alive owner ≡ true → waits_in w.locks owner resource ≡ true → WaitsUpward at owner resource

  upward-to : (after : World) → StaysUpward at after owner → WaitsUpward at owner resource → IsUpwardIn after
  upward-to after stays may = upward-stays at after owner stays resource.series resource.key may

  not_free : wait_of w.locks actor ≡ None → owner == actor ≡ true → waits_in w.locks owner resource ≡ true → ⊥
  not_free free its waits = clash _ (waits_free actor resource w.locks free) (rw (same_number owner actor its) at waits)

  pin : (page : ℕ) → wait_of w.locks actor ≡ None → Was → w.is_alive owner ≡ true → waits_in w.locks owner resource ≡ true → IsUpwardIn (pinned w actor page true)
  pin page free was alive waits = go (owner == actor) refl where
    go : (b : Bool) → owner == actor ≡ b → IsUpwardIn (pinned w actor page true)
    go true its = absurd (not_free free its waits)
    go false other = upward-to (pinned w actor page true) (record { pins = λ q is. grind (arith, other, is); fall = λ q is. at_most-self _; rise = λ q. at_most-self _ }) (was alive waits)

  unpin : (page : ℕ) → WaitsUpward at owner resource → IsUpwardIn (pinned w actor page false)
  unpin page = upward-to (pinned w actor page false) (record { pins = λ q is. grind (arith, is); fall = λ q is. at_most-self _; rise = λ q. at_most-self _ })

  -- Who comes does not wait.
  enter : (name : ℕ) → GuardOfEnter at actor name → Was → (if owner == actor then true else w.is_alive owner) ≡ true → waits_in w.locks owner resource ≡ true → WaitsUpward at owner resource
  enter name g was alive waits = go (owner == actor) refl alive where
    go : (b : Bool) → owner == actor ≡ b → (if b then true else w.is_alive owner) ≡ true → WaitsUpward at owner resource
    go true its is = absurd (grind (arith, nat_tests, its, g.next, came.waiting owner resource waits))
    go false other is = was is waits

  -- Nobody asks in an act of another kind.
  old : (waits_in w.locks owner resource ≡ true) ⊎ ⊥ → waits_in w.locks owner resource ≡ true
  old (inl waits) = waits
  old (inr asks) = absurd asks

  alive_beside : (if owner == actor then false else w.is_alive owner) ≡ true → (owner == actor ≡ false) × (w.is_alive owner ≡ true)
  alive_beside is = go (owner == actor) refl is where
    go : (b : Bool) → owner == actor ≡ b → (if b then false else w.is_alive owner) ≡ true → (b ≡ false) × (w.is_alive owner ≡ true)
    go true its alive = absurd cc
    go false other alive = (refl, alive)

  dying : (locks : LockState) → Was → (if owner == actor then false else w.is_alive owner) ≡ true → waits_in w.locks owner resource ≡ true → IsUpwardIn (record (dead w actor) { locks = locks })
  dying locks was alive waits =
      let lives = alive_beside alive in
      upward-to (record (dead w actor) { locks = locks }) (stays-dead at grow owner actor locks lives.0) (was lives.1 waits)

  landing : (page : ℕ) (locks : LockState) → RanksGrow at.shape.size (written w actor page) → is_draft_of actor (w.draft page) ≡ true → Was
      → (if owner == actor then false else w.is_alive owner) ≡ true → waits_in w.locks owner resource ≡ true → IsUpwardIn (record (dead (written w actor page) actor) { locks = locks })
  landing page locks grown its was alive waits =
      let lives = alive_beside alive in
      upward-stays (scene_in at (written w actor page)) (record (dead (written w actor page) actor) { locks = locks }) owner (stays-dead (scene_in at (written w actor page)) grown owner actor locks lives.0) resource.series resource.key
      (upward-to (written w actor page) (stays-written at grow owner actor page its) (was lives.1 waits))

  edit : (page : ℕ) (e : Edit) → GuardOfEdit at actor page e → Was → w.is_alive owner ≡ true → waits_in w.locks owner resource ≡ true → IsUpwardIn (with_edit w actor page e (page_after at.shape w actor page e))
  edit page e g was alive waits = go (owner == actor) refl where
    go : (b : Bool) → owner == actor ≡ b → IsUpwardIn (with_edit w actor page e (page_after at.shape w actor page e))
    go true its = absurd (not_free g.free its waits)
    go false other = upward-to (with_edit w actor page e (page_after at.shape w actor page e)) (stays-edited at owner actor x pins e other page g) (was alive waits)

  module _ (asked : Resource) (level : Level) (wait : Bool) (word : ℕ) (landed : Bool) where
    abbrev UpwardOrAsked : Type 0
    UpwardOrAsked = WaitsUpward at owner resource ⊎ HasJustAsked (happens actor (Ask asked level wait word) landed ∷ at.past) owner resource

    own : actor ≡ owner → asked ≡ resource → GuardOfAsk at actor asked level wait word → waits_in (locks_step w.locks actor (Ask asked level wait word)) owner resource ≡ true → UpwardOrAsked
    own its same g waits = go (ask-comes actor resource w.locks asked level wait word (waits_free actor resource w.locks g.free) (rw (sym its) at waits)) where
      go : ComesTo actor resource w.locks asked level wait word → UpwardOrAsked
      go (ComesTo.at_once answer) =
          inr (record { level = level; wait = wait; word = word; actor = its; act = rw same refl; free = rw (← locks_is, ← its, ← same) answer })
      go (ComesTo.in_queue answer closes) = inl (rw (← its, ← same) (g.upward answer closes))

    ask : GuardOfAsk at actor asked level wait word → Was → w.is_alive owner ≡ true → waits_in (locks_step w.locks actor (Ask asked level wait word)) owner resource ≡ true → UpwardOrAsked
    ask g was alive waits = go (waits-step owner resource w.locks actor (Ask asked level wait word) waits) where
      go : (waits_in w.locks owner resource ≡ true) ⊎ IsAskFor actor (Ask asked level wait word) owner resource → UpwardOrAsked
      go (inl waited) = inl (was alive waited)
      go (inr asks) = own asks.0 asks.1 g waits

  abbrev UpwardAfter : Act → Bool → Type 0
  UpwardAfter act landed = IsUpwardIn (acted at.shape w actor act landed) ⊎ HasJustAsked (happens actor act landed ∷ at.past) owner resource

  pub upward-acted : (act : Act) (landed : Bool) → Guard at actor act → Was → (acted at.shape w actor act landed).is_alive owner ≡ true → waits_in (acted at.shape w actor act landed).locks owner resource ≡ true
      → UpwardAfter act landed
  upward-acted (Opened locks) landed g was alive waits = absurd cc
  upward-acted (Enter buffers name) landed g was alive waits = inl (enter name g was alive waits)
  upward-acted Leave landed g was alive waits = inl (was (alive_beside alive).1 waits)
  upward-acted Die landed g was alive waits = inl (dying (locks_step w.locks actor Die) was alive (old (waits-step owner resource w.locks actor Die waits)))
  upward-acted (Ask asked level wait word) landed g was alive waits = ask asked level wait word landed g was alive waits
  upward-acted (Grant granted level) landed g was alive waits = inl (was alive (old (waits-step owner resource w.locks actor (Grant granted level) waits)))
  upward-acted Withdraw landed g was alive waits = inl (was alive (old (waits-step owner resource w.locks actor Withdraw waits)))
  upward-acted (Lower lowered level) landed g was alive waits = inl (was alive (old (waits-step owner resource w.locks actor (Lower lowered level) waits)))
  upward-acted (Reap gone by) landed g was alive waits = inl (was alive (old (waits-step owner resource w.locks actor (Reap gone by) waits)))
  upward-acted (Write page reason true) true g was alive waits =
      inl (landing page (locks_step w.locks actor Die) (grows-acted at grow x actor (Write page reason false) true g) g.drafted was alive (old (waits-step owner resource w.locks actor Die waits)))
  upward-acted (Write page reason true) false g was alive waits = inl (dying (locks_step w.locks actor Die) was alive (old (waits-step owner resource w.locks actor Die waits)))
  upward-acted (Write page reason false) landed g was alive waits = inl (upward-to (written w actor page) (stays-written at grow owner actor page g.drafted) (was alive waits))
  upward-acted (Local (local.Edit page e)) landed g was alive waits = inl (edit page e g was alive waits)
  upward-acted (Local (local.Before high low)) landed g was alive waits = inl (was alive waits)
  upward-acted (Local (local.Pin page)) landed g was alive waits = inl (pin page g.free was alive waits)
  upward-acted (Local (local.Unpin page)) landed g was alive waits = inl (unpin page (was alive waits))
  upward-acted _ landed g was alive waits = inl (was alive waits)
