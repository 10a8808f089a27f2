use Rattle.std.proofs.Common.{◌≡◌, ◌++◌}
use Rattle.indexmap.specs.IndexMap.{keys}
use Rattle.fbc_reach.proofs.tally.Tally.named_pages.Given as goal

-- The pages so far, and those that are to come.
abbrev pub invariant-loop-page : goal.invariant-loop-page
invariant-loop-page l = l.pages.items ++ l.page-iterator ≡ keys l.self.pages
