-- The commands of an event are its actor's.
use Rattle.std.proofs.Common.{◌≡◌, ◌++◌, ℕ, Bool, true, false, List, [], ◌∷◌, All, Option, Some, None, refl}
use Rattle.std.proofs.lemmas.List.Elements.{All-cons, All-head, All-nil, All-tail}
use Rattle.fbc_kinds.specs.declared.commands.Command.{Command}
use Rattle.fbc_kinds.specs.declared.commands.Command.TheVariants as command
use Rattle.fbc_kinds.specs.declared.edits.Edit.{Edit}
use Rattle.fbc_kinds.specs.declared.edits.Edit.TheVariants as edit
use Rattle.fbc_kinds.specs.declared.pages.Cell.{Cell}
use Rattle.fbc_kinds.specs.declared.pages.Flag.{Flag}
use Rattle.fbc_kinds.specs.declared.pages.Flag.TheVariants as flag
use Rattle.fbc_kinds.specs.declared.pages.Page.{Page}
use Rattle.fbc_kinds.specs.declared.pages.Page.TheVariants as kind
use Rattle.fbc_kinds.specs.declared.pages.State.TheVariants.{Active, Committed, Dead, Limbo}
use Rattle.fbc_kinds.specs.declared.shapes.Shape.{Shape}
use Rattle.fbc_kinds.specs.declared.snapshots.Transaction.{Transaction}
use Rattle.fbc_world.specs.Commands.{change_of, change_on, commands_at, edit_command, where_true}
use Rattle.fbc_world.specs.declared.events.Act.{Act}
use Rattle.fbc_world.specs.declared.events.Act.TheVariants as act
use Rattle.fbc_world.specs.declared.events.LocalEvent.TheVariants as local
use Rattle.fbc_world.specs.World.{World}
use Rattle.fbc_firm_facts.specs.Actors.{actor_of}

module _ (owner : ℕ) where
  abbrev IsIts : Command → Type 0
  IsIts asked = actor_of asked ≡ owner

  abbrev AreIts : List Command → Type 0
  AreIts commands = All IsIts commands

  none : AreIts []
  none = All-nil IsIts

  one : (asked : Command) → actor_of asked ≡ owner → AreIts (asked ∷ [])
  one asked is = All-cons IsIts asked [] is none

  joined : (first later : List Command) → AreIts first → AreIts later → AreIts (first ++ later)
  joined [] later are also = also
  joined (asked ∷ first) later are also = All-cons IsIts asked (first ++ later) (All-head IsIts asked first are) (joined first later (All-tail IsIts asked first are) also)

  where_any : (b : Bool) (commands : List Command) → AreIts commands → AreIts (where_true b commands)
  where_any true commands are = are
  where_any false commands are = none

  of_flag : (relation row : ℕ) (first : Bool) (f : Flag) (value : List ℕ) → AreIts (change_of owner relation row first f value)
  of_flag relation row first flag.Deletion value = one (command.Delete owner relation row) refl
  of_flag relation row true flag.Primary value = one (command.Insert owner relation row value) refl
  of_flag relation row false flag.Primary value = one (command.Update owner relation row value) refl
  of_flag relation row first flag.Empty value = none
  of_flag relation row first flag.Back value = none

  of_page : (shape : Shape) (cell : ℕ) (new : Cell) (found : Option Page) → AreIts (change_on shape owner cell new found)
  of_page shape cell new (Some (kind.Data d)) = of_flag _ _ _ new.flag new.value
  of_page shape cell new None = none
  of_page shape cell new (Some _) = none

  of_edit : (shape : Shape) (t : Option Transaction) (before : Option Page) (e : Edit) → AreIts (edit_command shape owner t before e)
  of_edit shape t before (edit.PutCell cell new) = where_any _ (change_on shape owner cell new before) (of_page shape cell new before)
  of_edit shape t before (edit.Mark number Dead) = where_any _ (command.Rollback owner ∷ []) (one (command.Rollback owner) refl)
  of_edit shape t before (edit.Mark number Active) = none
  of_edit shape t before (edit.Mark number Limbo) = none
  of_edit shape t before (edit.Mark number Committed) = none
  of_edit shape t before _ = none

  pub actors-own : (shape : Shape) (w : World) (done : Act) (landed : Bool) → AreIts (commands_at shape w owner done landed)
  actors-own shape w (act.Grant resource level) landed = where_any _ (command.Begin owner resource.key ∷ []) (one (command.Begin owner resource.key) refl)
  actors-own shape w (act.Local (local.Edit number e)) landed = where_any _ _ (of_edit shape (w.transaction owner) _ e)
  actors-own shape w (act.Write number cause failed) landed =
      joined _ _ (where_any _ (command.Commit owner ∷ []) (one (command.Commit owner) refl)) (where_any failed (command.Kill owner ∷ []) (one (command.Kill owner) refl))
  actors-own shape w act.Die landed = one (command.Kill owner) refl
  actors-own shape w (act.Local (local.Before high low)) landed = none
  actors-own shape w (act.Local (local.Pin page)) landed = none
  actors-own shape w (act.Local (local.Unpin page)) landed = none
  actors-own shape w _ landed = none
