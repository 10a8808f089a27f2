use Rattle.std.proofs.Common.{◌≡◌, take}
use Rattle.std.specs.Prelude.{fold, None}
use Rattle.fbc_machine.specs.Scanned.{nearer}
use Rattle.fbc_machine.proofs.machine.Machine.next_row.Given as goal

abbrev pub invariant-loop-version : goal.invariant-loop-version
invariant-loop-version l = l.next ≡ fold (nearer l.relation l.from) None (take l.version-index l.self.versions.items)
