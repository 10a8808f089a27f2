use Rattle.std.proofs.Common.{◌≡◌, ◌≤◌, ◌++◌, List, take}
use Rattle.fbc_reach.specs.Tally.{IsTallyOf}
use Rattle.fbc_reach.specs.declared.namings.Naming.{Naming}
use Rattle.fbc_reach.proofs.tally.Tally.note_all.Given as goal

-- The namings so far.
abbrev pub invariant-loop-naming : goal.invariant-loop-naming
invariant-loop-naming g l = record {
  noted : (done : List Naming)
      → IsTallyOf l.shape (g.D.Device.bytes l.initial.device) done l.initial.self
      → IsTallyOf l.shape (g.D.Device.bytes l.initial.device) (done ++ take l.naming-index l.namings) l.self;
  next : l.self.next ≡ l.initial.self.next;
  bytes : g.D.Device.bytes l.device ≡ g.D.Device.bytes l.initial.device;
  writes : g.D.Device.writes l.device ≡ g.D.Device.writes l.initial.device;
  landings : g.D.Device.landings l.device ≡ g.D.Device.landings l.initial.device;
  reach : g.D.Device.reach l.device ≡ g.D.Device.reach l.initial.device;
  later : g.D.Device.faults l.initial.device ≤ g.D.Device.faults l.device;
}
