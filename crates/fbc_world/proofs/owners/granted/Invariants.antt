use Rattle.std.proofs.Common.{◌≡◌, reverse, take}
use Rattle.fbc_world.specs.History.{none_landed}
use Rattle.fbc_world.specs.Owners.{granted}
use Rattle.fbc_world.proofs.owners.granted.Given as goal

abbrev pub invariant-loop-event : goal.invariant-loop-event
invariant-loop-event l = l.level ≡ granted (none_landed (reverse (take l.event-index l.events))) l.owner l.resource
