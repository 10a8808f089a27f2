use Rattle.std.proofs.Common.{reverse, take}
use Rattle.fbc_world.specs.History.{none_landed}
use Rattle.fbc_world.specs.PageCell.{blank_file, cell_of}
use Rattle.fbc_journal_readers.specs.Sketches.{IsSketch}
use Rattle.fbc_journal_readers.proofs.sketches.draft_owner.Given as goal

abbrev pub invariant-loop-event : goal.invariant-loop-event
invariant-loop-event l = IsSketch l.shape (cell_of l.shape blank_file l.page (none_landed (reverse (take l.event-index l.events)))) l.sketch
