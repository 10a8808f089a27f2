-- What is found so far; each turn finds one page more.
use Rattle.std.proofs.Common.{length, ◌-◌}
use Rattle.fbc_precedence.proofs.Searching.{IsFoundFor}
use Rattle.fbc_precedence.proofs.search.at_or_before.Given as goal

abbrev pub invariant-loop-high : goal.invariant-loop-high
invariant-loop-high l = IsFoundFor l.pairs l.page l.found.items

abbrev pub decreases-loop-high : goal.decreases-loop-high
decreases-loop-high l = 513 - length l.found.items
