use Rattle.std.proofs.Common.{◌++◌, refl, sym, subst, ◌∙◌}
use Rattle.fbc_links.specs.Versions.{IsWalked}
use Rattle.fbc_links.proofs.Followed.{begins, goes, ends}
use Rattle.fbc_links.proofs.chains.Chains.follow_chain.Goals as goal

pub loop-back-init : goal.loop-back-init
loop-back-init c = (refl, λ view all walked followed. begins view all c.args.relation c.args.place c.args.version c.args.self.now followed)

pub loop-back-preserved : goal.loop-back-preserved
loop-back-preserved c =
    let same = c.loop-back.invariant.0 in (
      c.follow_link.ensures.walked ∙ same,
      λ view all walked followed.
          let half = c.loop-back.invariant.1 view all walked followed in
          let here = subst (IsWalked view) (sym same) walked in
          goes view all c.args.relation c.args.place c.args.version c.loop-back.place c.loop-back.version c.loop-back.self c.follow_link.new.self half
          (c.in_ok-back.ensures.marks view (all ++ half.before) here half.marks)
          c.in-Some.back c.back_place-place.result c.back_place-place.ensures.page c.back_place-place.ensures.cell
          (sym c.in-Some.is ∙ c.in_ok-back.ensures.next view (all ++ half.before) here half.marks),
    )

pub returns-clause-followed : goal.returns-clause-followed
returns-clause-followed c view all walked followed =
    let half = c.loop-back.invariant.1 view all walked followed in
    let here = subst (IsWalked view) (sym c.loop-back.invariant.0) walked in
    ends view all c.args.relation c.args.place c.args.version c.loop-back.place c.loop-back.version c.loop-back.self c.follow_link.new.self half
    (c.in_ok-back.ensures.marks view (all ++ half.before) here half.marks)
    followed.closed
    (sym c.in_default.is ∙ c.in_ok-back.ensures.next view (all ++ half.before) here half.marks)
