-- The search begins with the page, finds one page more in each turn, and ends when it has found all.
use Rattle.std.proofs.Common.{[], ◌∷◌, ◌++◌, sym, ◌∙◌, ap, subst}
use Rattle.fbc_precedence.specs.Search.{IsClosed, LeadsInto}
use Rattle.fbc_precedence.proofs.Searching.{IsFoundFor, found-first, found-more, found-fewer, found-all}
use Rattle.fbc_precedence.proofs.search.at_or_before.Goals as goal

pub loop-high-init : goal.loop-high-init
loop-high-init c =
    subst (IsFoundFor c.args.pairs.now c.args.page) (sym (c.push.ensures.items ∙ ap (λ pages. pages ++ c.args.page ∷ []) c.new-found.ensures)) (found-first c.args.pairs.now c.args.page)

more : (c : goal.After-push-in-Some) → IsFoundFor c.args.pairs.now c.args.page c.push-in-Some.new.self.items
more c =
    let into = subst (λ pages. LeadsInto c.args.pairs.now pages c.in-Some.high) c.as_slice.ensures.value c.in-Some.ensures in
    subst (IsFoundFor c.args.pairs.now c.args.page) (sym c.push-in-Some.ensures.items) (found-more c.args.pairs.now c.args.page c.loop-high.found.items c.in-Some.high c.loop-high.invariant into)

pub loop-high-smaller : goal.loop-high-smaller
loop-high-smaller c =
    found-fewer c.args.pairs.now c.args.page c.loop-high.found.items c.push-in-Some.new.self.items c.in-Some.high c.requires c.push-in-Some.ensures.items (more c)

pub loop-high-preserved : goal.loop-high-preserved
loop-high-preserved c = more c

pub returns : goal.returns
returns c =
    let closed = subst (IsClosed c.args.pairs.now) c.as_slice.ensures.value c.in_default.ensures in
    λ other. (c.loop-high.invariant.before other, found-all c.args.pairs.now c.args.page c.loop-high.found.items c.loop-high.invariant closed other)
