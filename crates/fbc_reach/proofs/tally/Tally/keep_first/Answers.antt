use Rattle.std.proofs.Common.{◌∙◌, sym, subst, ap, nat_eq}
use Rattle.indexmap.specs.IndexMap.{get}
use Rattle.fbc_reach.specs.Content.{IsReadOf}
use Rattle.fbc_reach.specs.Tally.{has_late_version}
use Rattle.fbc_reach.specs.declared.content.PageRead.{PageRead}
use Rattle.fbc_reach.proofs.Tallies.{JudgesMore, named_first, tally_step, kept_unknown}
use Rattle.fbc_reach.proofs.tally.Tally.keep_first.Goals as goal

pub returns-clause-kept : goal.returns-clause-kept
returns-clause-kept c shape file done size read tally =
    let n = c.args.naming in
    let next = c.args.self.now.next in
    let fresh = c.new-named.result in
    let made = c.new-named.ensures in
    let judges : JudgesMore shape.size next n.role fresh c.judge.new.self =
    subst (λ s. JudgesMore s next n.role fresh c.judge.new.self) (sym size) c.judge.ensures.judged
    in
    let none = kept_unknown shape file next done n.page (get nat_eq c.args.self.now.pages n.page) (tally n.page) c.requires.fresh in
    tally_step shape file next done n (get nat_eq c.args.self.now.pages) (get nat_eq c.insert.new.self) c.judge.new.self
    c.in_ok-insert.ensures.updates.0
    tally
    (named_first shape file next done n.page n.role fresh c.judge.new.self judges c.judge.ensures.read c.judge.ensures.late_version c.judge.ensures.first
    none
    (subst (IsReadOf shape n.page file) (sym made.read) read)
    (made.late_version ∙ ap (λ (r : PageRead). has_late_version next r.content) (sym made.read))
    made.first
    (made.judged shape.size n.page done none))
