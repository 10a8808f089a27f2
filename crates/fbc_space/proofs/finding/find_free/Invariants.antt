-- How far the search has come; and it comes further.
use Rattle.std.proofs.Common.{◌-◌, ◌*◌, if◌then◌else◌}
use Rattle.fbc_space.proofs.Searching.{HasCome}
use Rattle.fbc_space.proofs.finding.find_free.Given as goal

abbrev pub invariant-loop-search : goal.invariant-loop-search
invariant-loop-search l = HasCome l.initial.desk l.desk l.limit l.initial.search l.search

abbrev pub decreases-loop-search : goal.decreases-loop-search
decreases-loop-search l = 2 * (64 - l.search.sequence) - (if l.search.is_counted then 1 else 0)
