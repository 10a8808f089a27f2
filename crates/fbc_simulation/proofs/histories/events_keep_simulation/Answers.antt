use Rattle.std.proofs.Common.{◌≡◌, ◌∷◌, ℕ, Bool, true, List, Option, Some, None, is_some, refl}
use Rattle.fbc_kinds.specs.declared.edits.Edit.{Edit}
use Rattle.fbc_kinds.specs.declared.edits.Edit.TheVariants as edit
use Rattle.fbc_kinds.specs.declared.pages.Cell.{Cell}
use Rattle.fbc_kinds.specs.declared.pages.Page.{Page}
use Rattle.fbc_kinds.specs.declared.snapshots.Transaction.{Transaction}
use Rattle.fbc_runs.specs.Runs.{MayAllCome}
use Rattle.fbc_world.specs.declared.events.Act.{Act}
use Rattle.fbc_world.specs.declared.events.Act.TheVariants.{Local}
use Rattle.fbc_world.specs.declared.events.LocalEvent.TheVariants as local
use Rattle.fbc_world.specs.History.{happens}
use Rattle.fbc_world.specs.World.{page_after, world_of}
use Rattle.fbc_legal.specs.Guards.{GuardOfEdit}
use Rattle.fbc_legal.specs.Legal.{IsLegal}
use Rattle.fbc_legal.specs.Scene.{scene_of}
use Rattle.fbc_closed_cuts.specs.Cut.{Cut}
use Rattle.fbc_simulation.specs.Beside.{machine_of}
use Rattle.fbc_simulation.specs.EditIn.{EditIsMeant, IsEditIn, commands_made}
use Rattle.fbc_simulation.specs.Simulated.{IsSimulated}
use Rattle.fbc_simulation.proofs.histories.events_keep_simulation.Goals as goal

pub returns : goal.returns
returns c shape file before moment legal whole simulated = go moment.event.actor moment.landed moment.event.act legal where
  meant : (owner page : ℕ) (e : Edit) (content : Page) (cut : Cut) (living : List Transaction) → IsEditIn shape file before owner page e content cut living → EditIsMeant shape file before owner page e content cut living
  meant owner page (edit.Mark number state) content cut living is = c.marks_are_meant.ensures shape file before owner page number state content cut living is
  meant owner page (edit.PutCell cell new) content cut living is = c.put_cells_are_meant.ensures shape file before owner page cell new content cut living is
  meant owner page (edit.ClearCell cell) content cut living is = c.cleared_cells_are_meant.ensures shape file before owner page cell content cut living is
  meant owner page e content cut living is = c.plain_edits_are_meant.ensures shape file before owner page e content cut living refl is

  put_comes : (owner page cell : ℕ) (new : Cell) → GuardOfEdit (scene_of shape file before) owner page (edit.PutCell cell new) → (found : Option Page) → page_after shape (world_of shape file before) owner page (edit.PutCell cell new) ≡ found → is_some found ≡ true
      → MayAllCome (machine_of shape file before) (commands_made shape (world_of shape file before) owner page (edit.PutCell cell new))
  put_comes owner page cell new g None is fits = absurd cc
  put_comes owner page cell new g (Some content) is fits = (c.changes_come.ensures shape file before owner page cell new content whole simulated g is).come

  comes : (owner page : ℕ) (e : Edit) → GuardOfEdit (scene_of shape file before) owner page e → MayAllCome (machine_of shape file before) (commands_made shape (world_of shape file before) owner page e)
  comes owner page (edit.Mark number state) g = c.plain_edits_and_marks_come.ensures.mark shape file before owner page number state
  comes owner page (edit.PutCell cell new) g = put_comes owner page cell new g (page_after shape (world_of shape file before) owner page (edit.PutCell cell new)) refl g.fits
  comes owner page (edit.ClearCell cell) g = c.cleared_cells_come.ensures shape file before owner page cell
  comes owner page e g = c.plain_edits_and_marks_come.ensures.plain shape file before owner page e refl

  go : (owner : ℕ) (landed : Bool) (act : Act) → IsLegal shape file (happens owner act landed ∷ before) → IsSimulated (scene_of shape file (happens owner act landed ∷ before))
  go owner landed (Local (local.Edit page e)) legal' = c.edits_keep_simulation.ensures shape file before owner page e landed legal' whole simulated (meant owner page e) (comes owner page e legal'.1.guard)
  go owner landed (Local (local.Before high low)) legal' = c.acts_keep_simulation.ensures shape file before (happens owner (Local (local.Before high low)) landed) legal' refl whole simulated
  go owner landed (Local (local.Pin page)) legal' = c.acts_keep_simulation.ensures shape file before (happens owner (Local (local.Pin page)) landed) legal' refl whole simulated
  go owner landed (Local (local.Unpin page)) legal' = c.acts_keep_simulation.ensures shape file before (happens owner (Local (local.Unpin page)) landed) legal' refl whole simulated
  go owner landed act legal' = c.acts_keep_simulation.ensures shape file before (happens owner act landed) legal' refl whole simulated
