-- The pages of the pairs so far.
use Rattle.std.proofs.Common.{◌≡◌, take}
use Rattle.fbc_precedence.specs.Pages.{pages_of}
use Rattle.fbc_precedence.proofs.pages.pages_of.Given as goal

abbrev pub invariant-loop-pair : goal.invariant-loop-pair
invariant-loop-pair l = l.pages.items ≡ pages_of (take l.pair-index l.pairs)
