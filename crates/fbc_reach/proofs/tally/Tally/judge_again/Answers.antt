use Rattle.std.proofs.Common.{◌≡◌, refl, sym, subst, Some, nat_eq}
use Rattle.std.specs.Option.{IsSome}
use Rattle.indexmap.specs.IndexMap.{get}
use Rattle.fbc_reach.proofs.Tallies.{JudgesMore, named_again, tally_step, kept_known}
use Rattle.fbc_reach.proofs.tally.Tally.judge_again.Goals as goal

pub returns-in-Some-clause-judged : goal.returns-in-Some-clause-judged
returns-in-Some-clause-judged c known shape file done size tally =
    let n = c.args.naming in
    let next = c.args.self.now.next in
    let old = get nat_eq c.args.self.now.pages in
    let before = c.in-Some.named.now in
    let after = c.judge.new.self in
    let found : old n.page ≡ Some before = sym c.in-Some.ensures.value in
    let some : IsSome (old n.page) = subst IsSome (sym found) refl in
    let judges : JudgesMore shape.size next n.role before after =
    subst (λ s. JudgesMore s next n.role before after) (sym size) c.judge.ensures.judged
    in
    tally_step shape file next done n old (get nat_eq (c.get_mut.follows.lender after)) after
    ((c.get_mut.follows.holds after).3 some).0
    tally
    (named_again shape file next done n.page n.role before after judges c.judge.ensures.read c.judge.ensures.late_version c.judge.ensures.first
    (kept_known shape file next done n.page (old n.page) before (tally n.page) found))
