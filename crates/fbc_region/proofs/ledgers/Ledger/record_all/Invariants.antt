use Rattle.std.proofs.Common.{◌-◌, ◌+◌, ℕ, length, take}
use Rattle.fbc_region.specs.Adding.{Adds, local_events}
use Rattle.fbc_region.specs.Shared.{HasRoom}
use Rattle.fbc_region.proofs.ledgers.Ledger.record_all.Given as goal

abbrev pub invariant-loop-event : goal.invariant-loop-event
invariant-loop-event l =
    Adds l.initial.self l.self (local_events l.owner (take l.event-index l.local)) × ((n : ℕ) → HasRoom l.initial.self (length l.local + n) → HasRoom l.self ((length l.local - l.event-index) + n))
