-- What a replay keeps true of the pages in its hands.
use Rattle.std.specs.Prelude.{Option, Some, None}
use Rattle.fbc_kinds.specs.declared.shapes.Shape.{Shape}
use Rattle.fbc_kinds.specs.Edits.{IsWithinLimits}
use Rattle.fbc_world.specs.declared.drafts.Draft.{Draft}
use Rattle.fbc_world.specs.declared.replays.Replay.{Replay}

-- The content of the draft, if there is one, is within its limits.
abbrev pub IsDraftWithin : Shape → Option Draft → Type 0
IsDraftWithin shape (Some draft) = IsWithinLimits shape draft.content
IsDraftWithin shape None = Unit {0}

-- Both pages of the cell are within their limits.
pub record IsWithin (shape : Shape) (cell : Replay) : Type 0 where
  pub kept_fits : IsWithinLimits shape cell.kept
  pub draft_fits : IsDraftWithin shape cell.draft
