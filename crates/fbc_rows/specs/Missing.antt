-- Pages that are to be got first.
use Rattle.std.specs.Prelude.{◌<◌}
use Rattle.fbc_cache.specs.declared.needs.Need.{Need}
use Rattle.fbc_cache.specs.Wants.{IsHere}
use Rattle.fbc_desk.specs.declared.holding.Held.{Held}
use Rattle.fbc_desk.specs.declared.holding.Held.TheVariants as held
use Rattle.fbc_desk.specs.Desk.{DeskState}
use Rattle.fbc_space.specs.declared.finding.Found.{Found}
use Rattle.fbc_space.specs.declared.finding.Found.TheVariants as found
use Rattle.fbc_space.specs.declared.free_steps.FreeStep.{FreeStep}
use Rattle.fbc_space.specs.declared.free_steps.FreeStep.TheVariants as free
use Rattle.fbc_rows.specs.declared.gathering.Empty.{Empty}
use Rattle.fbc_rows.specs.declared.gathering.Empty.TheVariants as empty
use Rattle.fbc_rows.specs.declared.parts.RowStep.{RowStep}
use Rattle.fbc_rows.specs.declared.parts.RowStep.TheVariants as step
use Rattle.fbc_rows.specs.declared.searching.Stop.{Stop}
use Rattle.fbc_rows.specs.declared.searching.Stop.TheVariants as stop
use Rattle.fbc_rows.specs.declared.slots.SlotStep.{SlotStep}
use Rattle.fbc_rows.specs.declared.slots.SlotStep.TheVariants as slot

-- The file may have the page, and it may not be used yet.
pub record IsMissing (d : DeskState) (need : Need) : Type 0 where
  pub below : need.page < d.cache.shape.limit
  pub away : ¬ IsHere d.cache need

-- So it is of the page that is missed, whatever misses it.
abbrev pub HeldMisses : DeskState → Held → Type 0
HeldMisses d (held.Miss need) = IsMissing d need
HeldMisses d _ = Unit {0}

abbrev pub SlotMisses : DeskState → SlotStep → Type 0
SlotMisses d (slot.Miss need) = IsMissing d need
SlotMisses d _ = Unit {0}

abbrev pub StopMisses : DeskState → Stop → Type 0
StopMisses d (stop.Miss need) = IsMissing d need
StopMisses d _ = Unit {0}

abbrev pub EmptyMisses : DeskState → Empty → Type 0
EmptyMisses d (empty.Miss need) = IsMissing d need
EmptyMisses d _ = Unit {0}

abbrev pub FoundMisses : DeskState → Found → Type 0
FoundMisses d (found.Miss need) = IsMissing d need
FoundMisses d _ = Unit {0}

abbrev pub FreeMisses : DeskState → FreeStep → Type 0
FreeMisses d (free.Miss need) = IsMissing d need
FreeMisses d _ = Unit {0}

abbrev pub Misses : DeskState → RowStep → Type 0
Misses d (step.Miss need) = IsMissing d need
Misses d _ = Unit {0}
