-- After a legal history pins are held, headers make ranks rise, who waits has come, and waits upward or has just asked.
use Rattle.std.proofs.Common.{◌≡◌, ◌⊎◌, inl, inr, ℕ, Bool, true, [], ◌∷◌}
use Rattle.fbc_kinds.specs.declared.shapes.Shape.{Shape}
use Rattle.fbc_kinds.specs.View.{View}
use Rattle.fbc_levels.specs.declared.levels.Level.{Level}
use Rattle.fbc_levels.specs.declared.resources.Resource.{Resource}
use Rattle.fbc_lock_table.specs.Effects.{entered as with_entered}
use Rattle.fbc_lock_table.specs.Answers.{answer_to_ask}
use Rattle.fbc_lock_table.specs.declared.answers.Asked.TheVariants.{Granted}
use Rattle.fbc_world.specs.declared.events.Act.{Act}
use Rattle.fbc_world.specs.declared.events.Act.TheVariants.{Ask}
use Rattle.fbc_world.specs.History.{History, Moment}
use Rattle.fbc_world.specs.Locks.{locks_of}
use Rattle.fbc_world.specs.World.{acted, world_of}
use Rattle.fbc_world.proofs.WorldLaws.{IsReplayed-world}
use Rattle.fbc_legal.specs.Circles.{HasJustAsked}
use Rattle.fbc_legal.specs.Coherent.{IsCoherent}
use Rattle.fbc_legal.specs.Legal.{ComesNext, ComesNextAfter, IsGrantOf, IsLegal, MayHappen}
use Rattle.fbc_legal.specs.Lives.{entered}
use Rattle.fbc_legal.specs.Ranks.{WaitsUpward}
use Rattle.fbc_legal.specs.Scene.{Scene, scene_of}
use Rattle.fbc_legal.proofs.Came.{HaveCome, came-acted}
use Rattle.fbc_legal.proofs.HeaderGrowth.{RanksGrow, grows-acted}
use Rattle.fbc_legal.proofs.Induction.{IsCoherent-legal, requests_true}
use Rattle.fbc_legal.proofs.Pins.{PinsAreHeld, pins-acted}
use Rattle.fbc_legal.proofs.RankOrder.{at_most-self}
use Rattle.fbc_legal.proofs.Upward.{upward-acted}
use Rattle.fbc_legal.proofs.Waiters.{granted_waits_not, waits_in}

pub record IsRanked (at : Scene) : Type 0 where
  pub pins : PinsAreHeld at.world
  pub grow : RanksGrow at.shape.size at.world
  pub came : HaveCome (entered at.past) at.world
  pub upward : (owner : ℕ) (resource : Resource) → at.world.is_alive owner ≡ true → waits_in at.world.locks owner resource ≡ true → WaitsUpward at owner resource ⊎ HasJustAsked at.past owner resource

IsRanked-start : (shape : Shape) (file : View) → IsRanked (scene_of shape file [])
IsRanked-start shape file = record {
  pins = λ owner page pinned. absurd cc;
  grow = λ page. at_most-self _;
  came = record { living = λ owner alive. absurd cc; waiting = λ owner resource waits. absurd cc };
  upward = λ owner resource alive waits. absurd cc;
}

-- What is asked with nobody in the way is granted next, and its owner waits for it no more.
pub granted_next : (before : History) (owner : ℕ) (resource : Resource) (level : Level) (last_actor : ℕ) (last_act : Act) (wait : Bool) (word : ℕ) (moment : Moment)
    → last_actor ≡ owner → last_act ≡ Ask resource level wait word → answer_to_ask (locks_of before) owner resource level wait ≡ Granted → ComesNextAfter before last_actor last_act moment
    → IsGrantOf owner resource level moment
granted_next before owner resource level last_actor last_act wait word moment its is free follows = (rw (its, is) at follows) free

waits_no_more : (at : Scene) (owner : ℕ) (resource : Resource) (level : Level) (moment : Moment) → IsGrantOf owner resource level moment
    → waits_in (acted at.shape at.world moment.event.actor moment.event.act moment.landed).locks owner resource ≡ true → ⊥
waits_no_more at owner resource level moment grant waits =
    granted_waits_not owner resource (with_entered at.world.locks.requests owner resource 0) level (rw (grant.actor, grant.act) at waits)

not_just : (shape : Shape) (file : View) (before : History) (moment : Moment) (owner : ℕ) (resource : Resource) → ComesNext before moment → HasJustAsked before owner resource
    → waits_in (world_of shape file (moment ∷ before)).locks owner resource ≡ true → ⊥
not_just shape file [] moment owner resource follows just waits = just
not_just shape file (last ∷ rest) moment owner resource follows just waits =
    waits_no_more (scene_of shape file (last ∷ rest)) owner resource just.level moment
    (granted_next rest owner resource just.level last.event.actor last.event.act just.wait just.word moment just.actor just.act just.free follows) waits

module _ (shape : Shape) (file : View) (before : History) (moment : Moment) (x : IsCoherent (world_of shape file before)) (h : IsRanked (scene_of shape file before)) (may : MayHappen (scene_of shape file before) moment) where
  abbrev at : Scene
  at = scene_of shape file before

  -- The owner waited upward before, if it waits now.
  was : (owner : ℕ) (resource : Resource) → waits_in (world_of shape file (moment ∷ before)).locks owner resource ≡ true → at.world.is_alive owner ≡ true → waits_in at.world.locks owner resource ≡ true
      → WaitsUpward at owner resource
  was owner resource now alive waits = go (h.upward owner resource alive waits) where
    go : WaitsUpward at owner resource ⊎ HasJustAsked before owner resource → WaitsUpward at owner resource
    go (inl upward) = upward
    go (inr just) = absurd (not_just shape file before moment owner resource may.follows just now)

  IsRanked-acted : IsRanked (scene_of shape file (moment ∷ before))
  IsRanked-acted = record {
    pins = pins-acted at h.pins x (requests_true shape file before) moment.event.actor moment.event.act moment.landed may.alive may.guard;
    grow = grows-acted at h.grow x moment.event.actor moment.event.act moment.landed may.guard;
    came = came-acted at h.came moment.event.actor moment.event.act moment.landed may.alive may.guard;
    upward = λ owner resource alive waits.
        upward-acted at x h.pins h.grow h.came (IsReplayed-world shape file before).locks_is moment.event.actor owner resource moment.event.act moment.landed may.guard (was owner resource waits) alive waits;
  }

pub IsRanked-legal : (shape : Shape) (file : View) (history : History) → IsLegal shape file history → IsRanked (scene_of shape file history)
IsRanked-legal shape file [] legal = IsRanked-start shape file
IsRanked-legal shape file (moment ∷ before) legal =
    IsRanked-acted shape file before moment (IsCoherent-legal shape file before legal.0) (IsRanked-legal shape file before legal.0) legal.1
