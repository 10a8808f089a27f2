use Rattle.std.proofs.Common.{rules, ◌≡◌, nat_eq, sym, subst}
use Rattle.std.specs.List.{IsDistinct}
use Rattle.indexmap.specs.IndexMap.{keys}
use Rattle.fbc_reach.proofs.TallyPages.{each_of, rise_of}
use Rattle.fbc_reach.proofs.tally.Tally.named_pages.Goals as goal

pub returns-clause-rise : goal.returns-clause-rise
returns-clause-rise c =
    let all : c.loop-page.pages.items ≡ keys c.args.self.now.pages = search rules in
    rise_of c.loop-page.pages.items c.sort_unstable.new.self.items c.sort_unstable.ensures.permutation (subst (IsDistinct nat_eq) (sym all) c.keys-page-items.ensures.unique) c.sort_unstable.ensures.sorted

pub returns-clause-each : goal.returns-clause-each
returns-clause-each c =
    let all : c.loop-page.pages.items ≡ keys c.args.self.now.pages = search rules in
    each_of c.args.self.now.pages.entries c.loop-page.pages.items c.sort_unstable.new.self.items all c.sort_unstable.ensures.permutation
