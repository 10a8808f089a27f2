-- Every act that is no edit keeps the machine beside the history.
use Rattle.std.proofs.Common.{◌≡◌, ◌∷◌, [], ℕ, Bool, true, false, List, refl, sym, subst}
use Rattle.fbc_kinds.specs.declared.commands.Command.TheVariants as command
use Rattle.fbc_kinds.specs.declared.shapes.Shape.{Shape}
use Rattle.fbc_kinds.specs.declared.snapshots.Transaction.{Transaction}
use Rattle.fbc_kinds.specs.Machine.{Machine}
use Rattle.fbc_kinds.specs.Meaning.{meaning_with}
use Rattle.fbc_kinds.specs.View.{View}
use Rattle.fbc_levels.specs.declared.levels.Level.{Level}
use Rattle.fbc_levels.specs.declared.resources.Resource.{Resource}
use Rattle.fbc_runs.specs.Ended.{settled_by}
use Rattle.fbc_runs.specs.Reading.{ReadsAs}
use Rattle.fbc_runs.specs.Runs.{MayAllCome, machine_after}
use Rattle.fbc_world.specs.Commands.{where_true}
use Rattle.fbc_world.specs.declared.events.Act.{Act}
use Rattle.fbc_world.specs.declared.events.Act.TheVariants.{Grant}
use Rattle.fbc_world.specs.History.{History, Moment, happens}
use Rattle.fbc_world.specs.World.{World, is_begin, world_of}
use Rattle.fbc_legal.specs.Legal.{IsLegal}
use Rattle.fbc_legal.specs.Scene.{scene_of}
use Rattle.fbc_closed_cuts.specs.Cut.{Cut, IsClosedCut, view}
use Rattle.fbc_closed_cuts.specs.Views.{is_edit}
use Rattle.fbc_soundness.specs.Whole.{IsWhole}
use Rattle.fbc_simulation.specs.Beside.{AreOpenIn, commits_in, machine_of}
use Rattle.fbc_simulation.specs.Simulated.{IsSimulated}
use Rattle.fbc_simulation.proofs.ActOpens.{OpensAlike, began-alike}
use Rattle.fbc_simulation.proofs.ActsKept.{IsMeantNow, acts_kept, simulated_by}
use Rattle.fbc_simulation.proofs.BeginFacts.{begin_comes}
use Rattle.fbc_simulation.proofs.BeginMeant.{begin_meant, commits_same, may}

module _ (shape : Shape) (file : View) (before : History) (whole : IsWhole (scene_of shape file before)) (s : IsSimulated (scene_of shape file before)) (owner : ℕ) (landed : Bool) where
  module _ (resource : Resource) (level : Level) (legal : IsLegal shape file (happens owner (Grant resource level) landed ∷ before)) where
    abbrev moment : Moment
    moment = happens owner (Grant resource level) landed

    abbrev machine : Machine
    machine = machine_of shape file before

    abbrev after : World
    after = world_of shape file (moment ∷ before)

    begins_kept : is_begin resource level ≡ true → IsSimulated (scene_of shape file (moment ∷ before))
    begins_kept begins = simulated_by shape file before moment s comes opens meant where
      comes : MayAllCome machine (where_true (is_begin resource level) (command.Begin owner resource.key ∷ []))
      comes = rw begins (begin_comes shape file before legal.0 whole s owner resource.key _ (may shape file before owner resource level landed legal whole s begins), tt)

      opens : OpensAlike after (machine_after machine (where_true (is_begin resource level) (command.Begin owner resource.key ∷ [])))
      opens =
          subst (λ b. OpensAlike after (machine_after machine (where_true b (command.Begin owner resource.key ∷ [])))) (sym begins)
          (began-alike (world_of shape file before) machine s.opens owner resource level begins (may shape file before owner resource level landed legal whole s begins).none_open
          (commits_same shape file before owner resource level landed legal whole s begins))

      meant : (cut : Cut) (living : List Transaction) → IsClosedCut after cut → AreOpenIn after cut living → IsMeantNow shape file before moment s cut living
      meant cut living closed open_in =
          subst (λ b. ReadsAs (meaning_with living (view after cut)) (settled_by living (commits_in after cut) (machine_after machine (where_true b (command.Begin owner resource.key ∷ []))))) (sym begins)
          (begin_meant shape file before owner resource level landed legal whole s begins cut living closed open_in)

    grants_kept : IsSimulated (scene_of shape file (moment ∷ before))
    grants_kept = go (is_begin resource level) refl where
      go : (b : Bool) → is_begin resource level ≡ b → IsSimulated (scene_of shape file (moment ∷ before))
      go true begins = begins_kept begins
      go false plain = acts_kept shape file before moment s legal refl whole.order.upheld.marks plain

  pub act_simulated : (act : Act) → IsLegal shape file (happens owner act landed ∷ before) → is_edit act ≡ false → IsSimulated (scene_of shape file (happens owner act landed ∷ before))
  act_simulated (Grant resource level) legal no_edit = grants_kept resource level legal
  act_simulated act legal no_edit = acts_kept shape file before (happens owner act landed) s legal no_edit whole.order.upheld.marks refl

pub acts_simulated : (shape : Shape) (file : View) (before : History) (moment : Moment) → IsLegal shape file (moment ∷ before) → is_edit moment.event.act ≡ false
    → IsWhole (scene_of shape file before) → IsSimulated (scene_of shape file before) → IsSimulated (scene_of shape file (moment ∷ before))
acts_simulated shape file before moment legal no_edit whole s = act_simulated shape file before whole s moment.event.actor moment.landed moment.event.act legal no_edit
