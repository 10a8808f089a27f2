use Rattle.std.proofs.Common.{◌≡◌, take}
use Rattle.std.specs.List.{flat_map}
use Rattle.fbc_validator.specs.Lost.{unlinked_in}
use Rattle.fbc_validator.proofs.lost.lost_cells.Given as goal

-- The lost cells of the first pages.
abbrev pub invariant-loop-page : goal.invariant-loop-page
invariant-loop-page l = l.lost.items ≡ flat_map (unlinked_in l.tally l.chains) (take l.page-index l.page-items)
