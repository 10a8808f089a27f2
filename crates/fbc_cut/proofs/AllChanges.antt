-- The commands of a history are changes: none of them is a question.
use Rattle.std.proofs.Common.{◌≡◌, ◌++◌, ℕ, Bool, true, false, List, [], ◌∷◌, All, Option, Some, None, refl}
use Rattle.std.proofs.lemmas.List.Elements.{All-cons, All-head, All-nil, All-tail}
use Rattle.fbc_kinds.specs.declared.commands.Command.{Command}
use Rattle.fbc_kinds.specs.declared.commands.Command.TheVariants as command
use Rattle.fbc_kinds.specs.declared.edits.Edit.{Edit}
use Rattle.fbc_kinds.specs.declared.edits.Edit.TheVariants as edit
use Rattle.fbc_kinds.specs.declared.pages.Cell.{Cell}
use Rattle.fbc_kinds.specs.declared.pages.Flag.{Flag}
use Rattle.fbc_kinds.specs.declared.pages.Flag.TheVariants as flag
use Rattle.fbc_kinds.specs.declared.pages.Page.{Page}
use Rattle.fbc_kinds.specs.declared.pages.Page.TheVariants as kind
use Rattle.fbc_kinds.specs.declared.pages.State.TheVariants.{Active, Committed, Dead, Limbo}
use Rattle.fbc_kinds.specs.declared.shapes.Shape.{Shape}
use Rattle.fbc_kinds.specs.declared.snapshots.Transaction.{Transaction}
use Rattle.fbc_kinds.specs.View.{View}
use Rattle.fbc_runs.specs.Runs.{is_change}
use Rattle.fbc_world.specs.Commands.{change_of, change_on, commands_at, commands_of, edit_command, where_true}
use Rattle.fbc_world.specs.declared.events.Act.{Act}
use Rattle.fbc_world.specs.declared.events.Act.TheVariants as act
use Rattle.fbc_world.specs.declared.events.LocalEvent.TheVariants as local
use Rattle.fbc_world.specs.History.{History}
use Rattle.fbc_world.specs.World.{World, world_of}

abbrev IsChange : Command → Type 0
IsChange asked = is_change asked ≡ true

abbrev AreChanges : List Command → Type 0
AreChanges commands = All IsChange commands

none : AreChanges []
none = All-nil IsChange

one : (asked : Command) → is_change asked ≡ true → AreChanges (asked ∷ [])
one asked is = All-cons IsChange asked [] is none

joined : (first later : List Command) → AreChanges first → AreChanges later → AreChanges (first ++ later)
joined [] later are also = also
joined (asked ∷ first) later are also = All-cons IsChange asked (first ++ later) (All-head IsChange asked first are) (joined first later (All-tail IsChange asked first are) also)

where_any : (b : Bool) (commands : List Command) → AreChanges commands → AreChanges (where_true b commands)
where_any true commands are = are
where_any false commands are = none

of_flag : (owner relation row : ℕ) (first : Bool) (f : Flag) (value : List ℕ) → AreChanges (change_of owner relation row first f value)
of_flag owner relation row first flag.Deletion value = one (command.Delete owner relation row) refl
of_flag owner relation row true flag.Primary value = one (command.Insert owner relation row value) refl
of_flag owner relation row false flag.Primary value = one (command.Update owner relation row value) refl
of_flag owner relation row first flag.Empty value = none
of_flag owner relation row first flag.Back value = none

of_page : (shape : Shape) (owner cell : ℕ) (new : Cell) (found : Option Page) → AreChanges (change_on shape owner cell new found)
of_page shape owner cell new (Some (kind.Data d)) = of_flag owner _ _ _ new.flag new.value
of_page shape owner cell new None = none
of_page shape owner cell new (Some _) = none

of_edit : (shape : Shape) (owner : ℕ) (t : Option Transaction) (before : Option Page) (e : Edit) → AreChanges (edit_command shape owner t before e)
of_edit shape owner t before (edit.PutCell cell new) = where_any _ (change_on shape owner cell new before) (of_page shape owner cell new before)
of_edit shape owner t before (edit.Mark number Dead) = where_any _ (command.Rollback owner ∷ []) (one (command.Rollback owner) refl)
of_edit shape owner t before (edit.Mark number Active) = none
of_edit shape owner t before (edit.Mark number Limbo) = none
of_edit shape owner t before (edit.Mark number Committed) = none
of_edit shape owner t before _ = none

of_act : (shape : Shape) (w : World) (owner : ℕ) (done : Act) (landed : Bool) → AreChanges (commands_at shape w owner done landed)
of_act shape w owner (act.Grant resource level) landed = where_any _ (command.Begin owner resource.key ∷ []) (one (command.Begin owner resource.key) refl)
of_act shape w owner (act.Local (local.Edit number e)) landed = where_any _ _ (of_edit shape owner (w.transaction owner) _ e)
of_act shape w owner (act.Write number cause failed) landed =
    joined _ _ (where_any _ (command.Commit owner ∷ []) (one (command.Commit owner) refl)) (where_any failed (command.Kill owner ∷ []) (one (command.Kill owner) refl))
of_act shape w owner act.Die landed = one (command.Kill owner) refl
of_act shape w owner (act.Local (local.Before high low)) landed = none
of_act shape w owner (act.Local (local.Pin page)) landed = none
of_act shape w owner (act.Local (local.Unpin page)) landed = none
of_act shape w owner _ landed = none

pub all-changes : (shape : Shape) (file : View) (history : History) → AreChanges (commands_of shape file history)
all-changes shape file [] = none
all-changes shape file (moment ∷ before) =
    joined (commands_of shape file before) _ (all-changes shape file before) (of_act shape (world_of shape file before) moment.event.actor moment.event.act moment.landed)
