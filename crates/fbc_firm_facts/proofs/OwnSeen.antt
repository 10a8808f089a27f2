-- An owner's own events that are no edits leave the machine, while its transaction goes on.
use Rattle.std.proofs.Common.{◌≡◌, ◌∙◌, ◌∷◌, ℕ, Bool, true, false, List, [], Some, None, refl, sym, ap}
use Rattle.fbc_kinds.specs.declared.commands.Command.{Command}
use Rattle.fbc_kinds.specs.declared.commands.Command.TheVariants as command
use Rattle.fbc_kinds.specs.declared.shapes.Shape.{Shape}
use Rattle.fbc_kinds.specs.declared.snapshots.Transaction.{Transaction}
use Rattle.fbc_kinds.specs.Meaning.{meaning_of}
use Rattle.fbc_kinds.specs.View.{View}
use Rattle.fbc_runs.specs.Runs.{machine_after}
use Rattle.fbc_world.specs.Commands.{commands_at, commands_of, where_true}
use Rattle.fbc_world.specs.declared.events.Act.{Act}
use Rattle.fbc_world.specs.declared.events.Act.TheVariants as act
use Rattle.fbc_world.specs.declared.events.LocalEvent.TheVariants as local
use Rattle.fbc_world.specs.History.{History, Moment}
use Rattle.fbc_world.specs.World.{World, acted, is_begin, world_of}
use Rattle.fbc_legal.specs.Guards.{Guard}
use Rattle.fbc_legal.specs.Legal.{IsLegal}
use Rattle.fbc_legal.specs.Scene.{Scene, scene_of}
use Rattle.fbc_closed_cuts.specs.Views.{is_edit}
use Rattle.fbc_simulation.specs.Beside.{machine_of}
use Rattle.fbc_simulation.proofs.RunsLonger.{machine_after-append}
use Rattle.fbc_firm_facts.proofs.OwnActs.{died}

module _ (at : Scene) (owner : ℕ) (t : Transaction) (open_is : at.world.transaction owner ≡ Some t) (unmarked : at.world.marked owner ≡ None) where
  abbrev w : World
  w = at.world

  no-commands : (done : Act) (landed : Bool) → Guard at owner done → is_edit done ≡ false → (acted at.shape w owner done landed).is_alive owner ≡ true → commands_at at.shape w owner done landed ≡ []
  no-commands (act.Grant resource level) landed g plain lives = go (is_begin resource level) refl where
    go : (b : Bool) → is_begin resource level ≡ b → where_true b (command.Begin owner resource.key ∷ []) ≡ []
    go true begins = absurd (let both : Some t ≡ None = sym open_is ∙ (g.begins begins).none_open in cc)
    go false others = refl
  no-commands (act.Write number reason true) true g plain lives = absurd (died at.shape w owner (w.is_alive owner) lives)
  no-commands (act.Write number reason true) false g plain lives = absurd (died at.shape w owner (w.is_alive owner) lives)
  no-commands (act.Write number reason false) landed g plain lives = rw unmarked refl
  no-commands act.Die landed g plain lives = absurd (died at.shape w owner (w.is_alive owner) lives)
  no-commands (act.Local (local.Edit number e)) landed g plain lives = absurd cc
  no-commands (act.Local (local.Before high low)) landed g plain lives = refl
  no-commands (act.Local (local.Pin page)) landed g plain lives = refl
  no-commands (act.Local (local.Unpin page)) landed g plain lives = refl
  no-commands _ landed g plain lives = refl

pub own-acts-leave : (shape : Shape) (file : View) (before : History) (moment : Moment) (t : Transaction) → IsLegal shape file (moment ∷ before) → is_edit moment.event.act ≡ false
    → (world_of shape file (moment ∷ before)).is_alive moment.event.actor ≡ true → (world_of shape file before).transaction moment.event.actor ≡ Some t → (world_of shape file before).marked moment.event.actor ≡ None
    → machine_of shape file (moment ∷ before) ≡ machine_of shape file before
own-acts-leave shape file before moment t legal plain lives open_is unmarked =
    let asked : List Command = commands_at shape (world_of shape file before) moment.event.actor moment.event.act moment.landed in
    machine_after-append (meaning_of file) (commands_of shape file before) asked
    ∙ ap (machine_after (machine_of shape file before)) (no-commands (scene_of shape file before) moment.event.actor t open_is unmarked moment.event.act moment.landed legal.1.guard plain lives)
