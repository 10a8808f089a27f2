use Rattle.std.proofs.Common.{◌≡◌, map, take}
use Rattle.fbc_reach.specs.Content.{version_kept}
use Rattle.fbc_reach.proofs.content.versions_of.Given as goal

-- The cells so far.
abbrev pub invariant-loop-cell : goal.invariant-loop-cell
invariant-loop-cell l = l.versions.items ≡ map version_kept (take l.cell-index l.cells)
