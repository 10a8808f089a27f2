-- The least free page of those that were found.
use Rattle.std.proofs.Common.{MatchOption, subst, sym}
use Rattle.fbc_precedence.specs.Search.{AllBlocked, IsLeastFree}
use Rattle.fbc_precedence.specs.Precedence.{IsNextToWrite}
use Rattle.fbc_precedence.proofs.Choosing.{next-is}
use Rattle.fbc_precedence.proofs.search.next_to_write.Goals as goal

pub returns : goal.returns
returns c =
    let least = subst (λ pages. MatchOption c.least_free.result (AllBlocked c.args.pairs.now pages) (IsLeastFree c.args.pairs.now pages)) c.as_slice.ensures.value c.least_free.ensures in
    subst (IsNextToWrite c.args.pairs.now c.args.page) (sym c.unwrap_or.ensures) (next-is c.args.pairs.now c.requires.acyclic c.args.page c.at_or_before-found.result.items c.at_or_before-found.ensures c.least_free.result least)
