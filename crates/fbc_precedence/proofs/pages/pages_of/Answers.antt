-- The pages of the first pairs are no more than those of all.
use Rattle.std.proofs.Common.{arith, ap, length}
use Rattle.fbc_precedence.proofs.Standing.{pages-of-first}
use Rattle.fbc_precedence.proofs.pages.pages_of.Goals as goal

pub add_pages-requires : goal.add_pages-requires
add_pages-requires c =
    let same = ap length c.loop-pair.invariant in
    omega (arith, same, pages-of-first c.loop-pair.pair-index c.args.pairs.now, c.requires)
