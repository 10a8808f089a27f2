-- Who is alive or waits has come, after each event.
use Rattle.std.proofs.Common.{◌≡◌, ◌≤◌, ◌⊎◌, inl, inr, ℕ, Bool, true, false, ◌==◌, if◌then◌else◌, refl, arith}
use Rattle.std.proofs.lemmas.Bool.Decides.{nat_tests}
use Rattle.fbc_levels.specs.declared.resources.Resource.{Resource}
use Rattle.fbc_world.specs.declared.events.Act.{Act}
use Rattle.fbc_world.specs.declared.events.Act.TheVariants.{Ask, Die, Enter, Leave, Write}
use Rattle.fbc_world.specs.World.{World, acted}
use Rattle.fbc_world.proofs.WorldSteps.{alive-acted, locks-acted}
use Rattle.fbc_world.specs.Owners.{alive_step}
use Rattle.fbc_legal.specs.Guards.{Guard}
use Rattle.fbc_legal.specs.Legal.{MayAct}
use Rattle.fbc_legal.specs.Lives.{entered, entered_step}
use Rattle.fbc_legal.specs.Scene.{Scene}
use Rattle.fbc_legal.proofs.Asking.{IsAskFor, waits-step}
use Rattle.fbc_legal.proofs.Waiters.{waits_in}

-- Owners are numbered as they come: who is alive, or waits, is among the first so many.
pub record HaveCome (count : ℕ) (w : World) : Type 0 where
  pub living : (owner : ℕ) → w.is_alive owner ≡ true → owner ≤ count
  pub waiting : (owner : ℕ) (resource : Resource) → waits_in w.locks owner resource ≡ true → owner ≤ count

module _ (at : Scene) (h : HaveCome (entered at.past) at.world) (actor : ℕ) where
  grows : (act : Act) → entered at.past ≤ entered_step (entered at.past) act
  grows (Enter buffers name) = grind (arith)
  grows _ = grind (arith)

  later : (act : Act) (owner : ℕ) → owner ≤ entered at.past → owner ≤ entered_step (entered at.past) act
  later act owner below = grind (arith, grows act, below)

  own : (act : Act) (owner : ℕ) → Guard at actor act → actor ≡ owner → alive_step (at.world.is_alive owner) act ≡ true → owner ≤ entered_step (entered at.past) act
  own (Enter buffers name) owner g its alive = grind (arith, g.next, its)
  own Leave owner g its alive = absurd cc
  own Die owner g its alive = absurd cc
  own (Write page cause true) owner g its alive = absurd cc
  own (Write page cause false) owner g its alive = h.living owner alive
  own _ owner g its alive = h.living owner alive

  alive_before : (act : Act) (owner : ℕ) → Guard at actor act → (b : Bool) → actor == owner ≡ b → (if b then alive_step (at.world.is_alive owner) act else at.world.is_alive owner) ≡ true
      → owner ≤ entered_step (entered at.past) act
  alive_before act owner g true its alive = own act owner g (grind (arith, nat_tests, its)) alive
  alive_before act owner g false its alive = later act owner (h.living owner alive)

  asker : (act : Act) (owner : ℕ) (resource : Resource) → MayAct at actor act → IsAskFor actor act owner resource → owner ≤ entered at.past
  asker (Ask resource level wait word) owner wanted lives asks = h.living owner (rw asks.0 at lives)
  asker _ owner wanted lives asks = absurd asks

  pub came-acted : (act : Act) (landed : Bool) → MayAct at actor act → Guard at actor act → HaveCome (entered_step (entered at.past) act) (acted at.shape at.world actor act landed)
  came-acted act landed lives g = record {
    living = λ owner alive. alive_before act owner g (actor == owner) refl (rw (alive-acted at.shape at.world actor act landed owner) at alive);
    waiting = λ owner resource waits. later act owner (before act owner resource lives (waits-step owner resource at.world.locks actor act (rw (locks-acted at.shape at.world actor act landed) at waits)));
  } where
    before : (act : Act) (owner : ℕ) (resource : Resource) → MayAct at actor act → (waits_in at.world.locks owner resource ≡ true) ⊎ IsAskFor actor act owner resource → owner ≤ entered at.past
    before act owner resource lives (inl waits) = h.waiting owner resource waits
    before act owner resource lives (inr asks) = asker act owner resource lives asks
