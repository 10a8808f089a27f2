use Rattle.std.proofs.Common.{◌≡◌, take, min}
use Rattle.fbc_script.specs.Numbers.{value_of}
use Rattle.fbc_script.proofs.numbers.value.Given as goal

-- The number of the digits so far, as far as it goes.
abbrev pub invariant-loop-digit : goal.invariant-loop-digit
invariant-loop-digit l = l.value ≡ min (value_of (take l.digit-index l.digits)) 4294967296
