use Rattle.std.proofs.Common.{◌≡◌, ◌++◌, take}
use Rattle.fbc_validator.specs.Lost.{unlinked_from}
use Rattle.fbc_validator.proofs.lost.push_cells.Given as goal

-- The lost ones among the first cells.
abbrev pub invariant-loop-cell : goal.invariant-loop-cell
invariant-loop-cell l = l.lost.items ≡ l.initial.lost.items ++ unlinked_from l.chains l.page 0 (take l.cell l.version-items)
