-- What is known of the pages so far.
use Rattle.std.proofs.Common.{take}
use Rattle.fbc_precedence.proofs.Least.{IsLeastSoFar}
use Rattle.fbc_precedence.proofs.search.least_free.Given as goal

abbrev pub invariant-loop-page : goal.invariant-loop-page
invariant-loop-page l = IsLeastSoFar l.pairs (take l.page-index l.found) l.least
