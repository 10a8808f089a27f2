-- Owners that have not come yet have no requests.
use Rattle.std.proofs.Common.{◌≡◌, ◌≢◌, ◌∙◌, ◌≤◌, ◌<◌, ℕ, Bool, true, false, not, ◌==◌, List, [], ◌∷◌, refl, arith}
use Rattle.std.specs.List.{filter}
use Rattle.fbc_kinds.specs.declared.shapes.Shape.{Shape}
use Rattle.fbc_kinds.specs.View.{View}
use Rattle.fbc_levels.specs.declared.resources.Request.{Request}
use Rattle.fbc_world.specs.declared.events.Act.{Act}
use Rattle.fbc_world.specs.declared.events.Act.TheVariants.{Enter, Opened, Reap}
use Rattle.fbc_world.specs.Frames.{is_purge_of, requests_of}
use Rattle.fbc_world.specs.History.{History}
use Rattle.fbc_world.specs.Locks.{locks_step}
use Rattle.fbc_world.specs.World.{world_of}
use Rattle.fbc_world.proofs.FrameLaws.{requests-frame}
use Rattle.fbc_legal.specs.Guards.{Guard}
use Rattle.fbc_legal.specs.Legal.{IsLegal, MayAct}
use Rattle.fbc_legal.specs.Lives.{entered, entered_step}
use Rattle.fbc_legal.specs.Scene.{Scene, scene_of}
use Rattle.fbc_legal.proofs.Ranked.{IsRanked-legal}

grows : (count : ℕ) (act : Act) → count ≤ entered_step count act
grows count (Enter buffers name) = grind (arith)
grows count _ = grind (arith)

-- What is left of none is none.
none_left : {X : Type 0} (p q : X → Bool) (xs : List X) → filter p xs ≡ [] → filter p (filter q xs) ≡ []
none_left p q [] none = refl
none_left p q (x ∷ xs) none = grind (arith, none, none_left p q xs)

module _ (at : Scene) (living : (other : ℕ) → at.world.is_alive other ≡ true → other ≤ entered at.past) (actor owner : ℕ) where
  -- Who acts has come.
  came : (act : Act) → MayAct at actor act → Guard at actor act → is_purge_of owner act ≡ false → actor ≤ entered_step (entered at.past) act
  came (Opened locks) lives g spared = absurd (cc)
  came (Enter buffers name) lives g spared = grind (arith, g.next)
  came _ lives g spared = living actor lives

  not_yet : (act : Act) → actor ≤ entered_step (entered at.past) act → entered_step (entered at.past) act < owner → actor ≢ owner
  not_yet act has new same = grind (arith, has, new, same)

  left : (act : Act) → MayAct at actor act → Guard at actor act → entered_step (entered at.past) act < owner → requests_of at.world.locks owner ≡ [] → is_purge_of owner act ≡ false
      → requests_of (locks_step at.world.locks actor act) owner ≡ []
  left act lives g new none spared = requests-frame actor owner (not_yet act (came act lives g spared) new) at.world.locks act spared ∙ none

  none-step : (act : Act) → MayAct at actor act → Guard at actor act → entered_step (entered at.past) act < owner → requests_of at.world.locks owner ≡ [] → requests_of (locks_step at.world.locks actor act) owner ≡ []
  none-step (Opened locks) lives g new none = refl
  none-step (Reap dead by) lives g new none = none_left (λ (r : Request). r.owner == owner) (λ (r : Request). not (r.owner == dead)) at.world.locks.requests none
  none-step act lives g new none = left act lives g new none refl

pub none-asked : (shape : Shape) (file : View) (history : History) → IsLegal shape file history → (owner : ℕ) → entered history < owner → requests_of (world_of shape file history).locks owner ≡ []
none-asked shape file [] legal owner new = refl
none-asked shape file (moment ∷ before) legal owner new =
    none-step (scene_of shape file before) (IsRanked-legal shape file before legal.0).came.living moment.event.actor owner moment.event.act legal.1.alive legal.1.guard new
    (none-asked shape file before legal.0 owner (grind (arith, new, grows (entered before) moment.event.act)))
