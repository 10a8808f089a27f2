use Rattle.std.proofs.Common.{◌≡◌, ◌≤◌, take}
use Rattle.fbc_console.specs.Writes.{IsAfter}
use Rattle.fbc_console.proofs.writes.write_images.Given as goal

abbrev pub invariant-loop-image : goal.invariant-loop-image
invariant-loop-image g l =
    (IsAfter (g.D.Device.bytes l.initial.device) (g.D.Device.bytes l.device) (take l.image-index l.images))
    × (g.D.Device.reach l.device ≡ g.D.Device.reach l.initial.device)
    × (g.D.Device.faults l.initial.device ≤ g.D.Device.faults l.device)
