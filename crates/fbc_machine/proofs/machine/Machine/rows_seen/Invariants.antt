use Rattle.std.proofs.Common.{◌-◌, ◌^◌}
use Rattle.fbc_kinds.specs.Chain.{see}
use Rattle.fbc_kinds.specs.Machine.{is_held, standing_versions}
use Rattle.fbc_machine.specs.Shown.{shown}
use Rattle.fbc_machine.proofs.Scanning.{IsScanBelow}
use Rattle.fbc_machine.proofs.machine.Machine.rows_seen.Given as goal

abbrev pub invariant-loop-row : goal.invariant-loop-row
invariant-loop-row l = IsScanBelow (λ row. see (standing_versions (shown l.self) l.relation row) (is_held l.snapshot)) l.from l.rows.items

abbrev pub decreases-loop-row : goal.decreases-loop-row
decreases-loop-row l = 2 ^ 32 - l.from
