use Rattle.std.proofs.Common.{◌≡◌, ◌-◌, ◌≤◌}
use Rattle.fbc_files.specs.Creating.{HoldsIfEmpty, ShowsWritten}
use Rattle.fbc_files.proofs.creating.write_new_pages.Given as goal

abbrev pub invariant-loop-number : goal.invariant-loop-number
invariant-loop-number g l = record {
  holds : HoldsIfEmpty (ShowsWritten l.size l.pages (l.number - 1)) (g.D.Device.bytes l.initial.device) (g.D.Device.bytes l.device);
  reach : g.D.Device.reach l.device ≡ g.D.Device.reach l.initial.device;
  faults : g.D.Device.faults l.initial.device ≤ g.D.Device.faults l.device;
}
