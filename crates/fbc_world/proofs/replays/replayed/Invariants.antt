use Rattle.std.proofs.Common.{◌≡◌, ℕ, Some, reverse, take}
use Rattle.fbc_kinds.specs.declared.shapes.Shape.{Shape}
use Rattle.fbc_world.specs.declared.replays.Replay.{Replay}
use Rattle.fbc_world.specs.History.{History, none_landed}
use Rattle.fbc_world.specs.PageCell.{blank_file, draft, kept}
use Rattle.fbc_world.specs.Replay.{IsWithin}
use Rattle.fbc_world.proofs.replays.replayed.Given as goal

-- The cell is that of the history so far.
pub record IsCellAfter (shape : Shape) (history : History) (page : ℕ) (cell : Replay) : Type 0 where
  pub kept_is : Some cell.kept ≡ kept shape blank_file history page
  pub draft_is : cell.draft ≡ draft shape blank_file history page
  pub within : IsWithin shape cell

abbrev pub invariant-loop-event : goal.invariant-loop-event
invariant-loop-event l = IsCellAfter l.shape (none_landed (reverse (take l.event-index l.events))) l.page l.cell
