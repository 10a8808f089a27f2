-- None of the numbers so far is active.
use Rattle.std.proofs.Common.{◌≡◌, ◌<◌, ◌≤◌, ℕ, false}
use Rattle.fbc_kinds.specs.View.{is_active_state}
use Rattle.fbc_tip.specs.Snapshots.{state_by}
use Rattle.fbc_tip.proofs.snapshots.least_active.Given as goal

abbrev pub invariant-loop-number : goal.invariant-loop-number
invariant-loop-number l = (1 ≤ l.number) × ((other : ℕ) → 0 < other → other < l.number → is_active_state (state_by l.snapshot other) ≡ false)
