use Rattle.std.proofs.Common.{◌≡◌, take}
use Rattle.std.specs.List.{flat_map}
use Rattle.fbc_validator.specs.Damages.{damage_in}
use Rattle.fbc_validator.proofs.damages.damages_among.Given as goal

-- The damages so far.
abbrev pub invariant-loop-page : goal.invariant-loop-page
invariant-loop-page l = l.found.items ≡ flat_map (damage_in l.header l.tally l.chains) (take l.page-index l.pages)
