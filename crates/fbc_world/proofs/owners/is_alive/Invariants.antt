use Rattle.std.proofs.Common.{◌≡◌, reverse, take}
use Rattle.fbc_world.specs.History.{none_landed}
use Rattle.fbc_world.specs.Owners.{is_alive}
use Rattle.fbc_world.proofs.owners.is_alive.Given as goal

abbrev pub invariant-loop-event : goal.invariant-loop-event
invariant-loop-event l = l.alive ≡ is_alive (none_landed (reverse (take l.event-index l.events))) l.owner
