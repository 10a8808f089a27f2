-- None of the pairs so far leads into the pages from outside.
use Rattle.std.proofs.Common.{take}
use Rattle.fbc_precedence.specs.Search.{IsClosed}
use Rattle.fbc_precedence.proofs.search.directly_before.Given as goal

abbrev pub invariant-loop-pair : goal.invariant-loop-pair
invariant-loop-pair l = IsClosed (take l.pair-index l.pairs) l.found
