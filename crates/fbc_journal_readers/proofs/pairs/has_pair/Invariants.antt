use Rattle.std.proofs.Common.{◌≡◌, reverse, take}
use Rattle.fbc_world.specs.History.{none_landed}
use Rattle.fbc_world.specs.WriteOrder.{pairs_of}
use Rattle.fbc_journal_readers.proofs.pairs.has_pair.Given as goal

abbrev pub invariant-loop-event : goal.invariant-loop-event
invariant-loop-event l = l.stands ≡ pairs_of (none_landed (reverse (take l.event-index l.events))) l.owner l.high l.low
