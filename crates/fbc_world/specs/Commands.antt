-- The commands of the one-thread machine for which a history stands. Reads and scans are known by their statements
-- alone, and are no part of them.
use Rattle.std.specs.Prelude.{ℕ, Bool, true, false, not, ◌&&◌, ◌||◌, ◌+◌, ◌*◌, ◌++◌, List, [], ◌∷◌, Option, Some, is_some}
use Rattle.std.specs.Option.{option_map_or}
use Rattle.fbc_kinds.specs.declared.commands.Command.{Command}
use Rattle.fbc_kinds.specs.declared.commands.Command.TheVariants as command
use Rattle.fbc_kinds.specs.declared.edits.Edit.{Edit}
use Rattle.fbc_kinds.specs.declared.edits.Edit.TheVariants.{Mark, PutCell}
use Rattle.fbc_kinds.specs.declared.pages.Cell.{Cell}
use Rattle.fbc_kinds.specs.declared.pages.Data.{Data}
use Rattle.fbc_kinds.specs.declared.pages.Flag.{Flag}
use Rattle.fbc_kinds.specs.declared.pages.Flag.TheVariants as flag
use Rattle.fbc_kinds.specs.declared.pages.Page.{Page}
use Rattle.fbc_kinds.specs.declared.pages.Page.TheVariants as page
use Rattle.fbc_kinds.specs.declared.pages.State.TheVariants.{Dead}
use Rattle.fbc_kinds.specs.declared.shapes.Shape.{Shape}
use Rattle.fbc_kinds.specs.declared.snapshots.Transaction.{Transaction}
use Rattle.fbc_kinds.specs.Edits.{value_length}
use Rattle.fbc_kinds.specs.Limits.{cells}
use Rattle.fbc_kinds.specs.View.{View, cell_in, is_empty}
use Rattle.fbc_world.specs.declared.events.Act.{Act}
use Rattle.fbc_world.specs.declared.events.Act.TheVariants.{Die, Grant, Local, Write}
use Rattle.fbc_world.specs.declared.events.LocalEvent.TheVariants as local
use Rattle.fbc_world.specs.History.{History}
use Rattle.fbc_world.specs.PageCell.{page_for}
use Rattle.fbc_world.specs.World.{World, is_begin, is_mark_on, is_number_of, page_after, world_of}

-- These commands where the test passes, and otherwise none.
abbrev pub where_true : Bool → List Command → List Command
where_true true commands = commands
where_true false commands = []

-- The number of the row whose newest version stands in a cell of a data page.
abbrev pub row_of : Shape → Data → ℕ → ℕ
row_of shape data_page cell = data_page.sequence * cells shape.size (value_length shape data_page.relation) + cell

-- Whether a cell that is there holds nothing.
abbrev pub is_empty_cell : Option Cell → Bool
is_empty_cell cell = option_map_or (λ (c : Cell). is_empty c.flag) cell false

-- The change of a row: its deletion, its first version where the cell held nothing, and otherwise another value.
abbrev pub change_of : ℕ → ℕ → ℕ → Bool → Flag → List ℕ → List Command
change_of owner relation row first flag.Deletion value = command.Delete owner relation row ∷ []
change_of owner relation row true flag.Primary value = command.Insert owner relation row value ∷ []
change_of owner relation row false flag.Primary value = command.Update owner relation row value ∷ []
change_of owner relation row first _ value = []

-- The change that putting this content into a cell of this page is.
abbrev pub change_on : Shape → ℕ → ℕ → Cell → Option Page → List Command
change_on shape owner cell content (Some (page.Data data_page)) =
    change_of owner data_page.relation (row_of shape data_page cell) (is_empty_cell (cell_in (Some (page.Data data_page)) cell)) content.flag content.value
change_on shape owner cell content _ = []

-- The command of an edit that fits, on this page before it, with this open transaction. A version of the open number on
-- top of a row is a change; a mark of that number as dead is its rollback.
abbrev pub edit_command : Shape → ℕ → Option Transaction → Option Page → Edit → List Command
edit_command shape owner transaction before (PutCell cell content) = where_true (is_number_of content.number transaction) (change_on shape owner cell content before)
edit_command shape owner transaction before (Mark number Dead) = where_true (is_number_of number transaction) (command.Rollback owner ∷ [])
edit_command shape owner transaction before _ = []

-- The commands of an act of the owner, where this stands before it. A transaction begins at the grant of its number, and is
-- committed by the write of the page with its mark that lands. A death is a kill; a failed write that lands is first what it
-- would have been.
abbrev pub commands_at : Shape → World → ℕ → Act → Bool → List Command
commands_at shape w owner (Grant resource level) landed = where_true (is_begin resource level) (command.Begin owner resource.key ∷ [])
commands_at shape w owner (Local (local.Edit number edit)) landed =
    where_true (is_some (page_after shape w owner number edit)) (edit_command shape owner (w.transaction owner) (page_for owner (w.kept number) (w.draft number)) edit)
commands_at shape w owner (Write number cause failed) landed =
    where_true ((not failed || landed) && is_mark_on number (w.marked owner)) (command.Commit owner ∷ []) ++ where_true failed (command.Kill owner ∷ [])
commands_at shape w owner Die landed = command.Kill owner ∷ []
commands_at shape w owner _ landed = []

-- The commands of a history over a file, in the order in which they happened.
abbrev pub commands_of : Shape → View → History → List Command
commands_of shape file [] = []
commands_of shape file (moment ∷ before) =
    commands_of shape file before ++ commands_at shape (world_of shape file before) moment.event.actor moment.event.act moment.landed
