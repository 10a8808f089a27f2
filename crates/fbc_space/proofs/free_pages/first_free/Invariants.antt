-- None of the pages so far.
use Rattle.std.proofs.Common.{◌≡◌, ◌<◌, ℕ, false}
use Rattle.fbc_space.specs.FreePages.{is_free_within}
use Rattle.fbc_space.proofs.free_pages.first_free.Given as goal

abbrev pub invariant-loop-page : goal.invariant-loop-page
invariant-loop-page l = (other : ℕ) → other < l.page → is_free_within l.cache l.inventory l.from l.end l.passed other ≡ false
