-- Changes that an owner's edit of a cell is, and that come to the machine and are done.
use Rattle.std.specs.Prelude.{◌≡◌, ℕ, List, [], ◌∷◌}
use Rattle.fbc_kinds.specs.declared.commands.Command.{Command}
use Rattle.fbc_kinds.specs.declared.commands.Command.TheVariants as command
use Rattle.fbc_kinds.specs.declared.edits.Edit.TheVariants.{PutCell}
use Rattle.fbc_kinds.specs.declared.pages.Cell.{Cell}
use Rattle.fbc_kinds.specs.declared.pages.Page.{Page}
use Rattle.fbc_kinds.specs.declared.replies.Reply.{Reply}
use Rattle.fbc_kinds.specs.declared.replies.Reply.TheVariants as reply
use Rattle.fbc_kinds.specs.declared.shapes.Shape.{Shape}
use Rattle.fbc_kinds.specs.declared.snapshots.Transaction.{Transaction}
use Rattle.fbc_kinds.specs.Meaning.{meaning_with}
use Rattle.fbc_kinds.specs.View.{View}
use Rattle.fbc_meanings.specs.Beside.{IsCarriedOut}
use Rattle.fbc_runs.specs.Ended.{settled_by}
use Rattle.fbc_page_edits.specs.Edited.{with_page}
use Rattle.fbc_world.specs.History.{History}
use Rattle.fbc_world.specs.World.{world_of}
use Rattle.fbc_closed_cuts.specs.Cut.{Cut, view}
use Rattle.fbc_simulation.specs.Beside.{commits_in, machine_of}
use Rattle.fbc_simulation.specs.EditIn.{commands_made}

-- The owner inserts, updates or deletes a row.
abbrev pub IsChangeOf : ℕ → Command → Type 0
IsChangeOf owner (command.Insert who relation row value) = who ≡ owner
IsChangeOf owner (command.Update who relation row value) = who ≡ owner
IsChangeOf owner (command.Delete who relation row) = who ≡ owner
IsChangeOf owner _ = ⊥

-- The reply to a change that is done: an insertion is answered by its row.
abbrev pub done_reply : Command → Reply
done_reply (command.Insert who relation row value) = reply.Row row
done_reply _ = reply.Ok

-- A version that is put is one change by its owner. It may come to the machine that the view reads as, and is done, and with the version
-- the view reads as the machine after it.
pub record IsPutCarriedOut (shape : Shape) (file : View) (past : History) (owner page cell : ℕ) (new : Cell) (content : Page) (cut : Cut) (living : List Transaction) : Type 0 where
  pub asked : Command
  pub change : IsChangeOf owner asked
  pub are : commands_made shape (world_of shape file past) owner page (PutCell cell new) ≡ asked ∷ []
  pub done : IsCarriedOut (settled_by living (commits_in (world_of shape file past) cut) (machine_of shape file past)) asked (done_reply asked)
      (meaning_with living (with_page (view (world_of shape file past) cut) page content))
