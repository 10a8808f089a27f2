-- A turn holds one page more, or ends with one that is missing or damaged.
use Rattle.std.proofs.Common.{◌∙◌, ◌<◌, length, ap, subst, sym}
use Rattle.fbc_desk.specs.declared.holding.Held.TheVariants as held
use Rattle.fbc_tip.proofs.Inventory.{damaged-comes, damaged-goes, damaged-held, damaged-uses, held-on, none-more, one-more}
use Rattle.fbc_tip.proofs.Uses.{same_tips}
use Rattle.fbc_tip.proofs.inventories.hold_tips.Goals as goal

pub loop-sequence-init : goal.loop-sequence-init
loop-sequence-init c = none-more c.args.desk.now c.still_held-part.result c.still_held-part.ensures.held

pub returns-in-Damaged-clause-held : goal.returns-in-Damaged-clause-held
returns-in-Damaged-clause-held c = damaged-held c.args.desk.now c.still_held-part.result c.loop-sequence.desk c.hold_tip.new.desk c.loop-sequence.part.held c.loop-sequence.sequence c.loop-sequence.invariant c.hold_tip.ensures.goes c.in-Damaged.page c.in-Damaged.rule c.in-Damaged.ensures.after

pub returns-in-Damaged-clause-comes : goal.returns-in-Damaged-clause-comes
returns-in-Damaged-clause-comes c =
    let less : c.loop-sequence.sequence < length c.loop-sequence.desk.tips =
    subst (λ n. c.loop-sequence.sequence < n) (c.tip_count-sequence-end.ensures ∙ ap length (sym (same_tips c.args.desk.now c.loop-sequence.desk c.loop-sequence.invariant.uses))) c.loop-sequence-test.true in
    damaged-comes c.args.desk.now c.still_held-part.result c.loop-sequence.desk c.hold_tip.new.desk c.loop-sequence.part.held c.loop-sequence.sequence c.loop-sequence.invariant c.hold_tip.ensures.goes c.in-Damaged.page c.in-Damaged.rule c.in-Damaged.ensures.after less c.in-Damaged.ensures.held

pub returns-in-Damaged-clause-same : goal.returns-in-Damaged-clause-same
returns-in-Damaged-clause-same c = damaged-uses c.args.desk.now c.still_held-part.result c.loop-sequence.desk c.hold_tip.new.desk c.loop-sequence.part.held c.loop-sequence.sequence c.loop-sequence.invariant c.hold_tip.ensures.goes c.in-Damaged.page c.in-Damaged.rule c.in-Damaged.ensures.after

pub returns-in-Damaged-clause-goes : goal.returns-in-Damaged-clause-goes
returns-in-Damaged-clause-goes c = damaged-goes c.args.desk.now c.still_held-part.result c.loop-sequence.desk c.hold_tip.new.desk c.loop-sequence.part.held c.loop-sequence.sequence c.loop-sequence.invariant c.hold_tip.ensures.goes c.in-Damaged.page c.in-Damaged.rule c.in-Damaged.ensures.after

pub returns-in-Damaged-clause-turns : goal.returns-in-Damaged-clause-turns
returns-in-Damaged-clause-turns c =
    held-on c.args.desk.now c.args.part.now.held c.still_held-part.result c.loop-sequence.desk c.hold_tip.new.desk c.loop-sequence.part.held c.loop-sequence.sequence (held.Damaged c.in-Damaged.page c.in-Damaged.rule)
    c.still_held-part.ensures c.loop-sequence.invariant c.in-Damaged.ensures.after

pub loop-sequence-preserved : goal.loop-sequence-preserved
loop-sequence-preserved c = one-more c.args.desk.now c.still_held-part.result c.loop-sequence.desk c.hold_tip.new.desk c.loop-sequence.part.held c.loop-sequence.sequence c.loop-sequence.invariant c.hold_tip.ensures.goes c.in-Here.ensures.held c.in-Here.ensures.after
