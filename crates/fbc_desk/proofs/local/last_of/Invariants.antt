-- No event from this place on is of the page.
use Rattle.std.proofs.Common.{◌≡◌, ◌≤◌, ℕ, false, length, slice_get}
use Rattle.std.specs.Option.{option_map_or}
use Rattle.fbc_desk.specs.Calls.{is_event_of}
use Rattle.fbc_desk.proofs.local.last_of.Given as goal

abbrev pub invariant-loop-k : goal.invariant-loop-k
invariant-loop-k l = (l.k ≤ length l.events) × ((place : ℕ) → l.k ≤ place → option_map_or (is_event_of l.page) (slice_get l.events place) false ≡ false)

abbrev pub decreases-loop-k : goal.decreases-loop-k
decreases-loop-k l = l.k
