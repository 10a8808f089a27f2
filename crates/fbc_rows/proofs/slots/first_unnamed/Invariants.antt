-- None of the slots so far.
use Rattle.std.proofs.Common.{◌≡◌, ◌<◌, ℕ, false}
use Rattle.fbc_chains.specs.Showing.{shown_by}
use Rattle.fbc_rows.specs.Slots.{is_unnamed}
use Rattle.fbc_rows.proofs.slots.first_unnamed.Given as goal

abbrev pub invariant-loop-slot : goal.invariant-loop-slot
invariant-loop-slot l = (other : ℕ) → other < l.slot → is_unnamed (shown_by l.cache) l.pointer l.slots other ≡ false
