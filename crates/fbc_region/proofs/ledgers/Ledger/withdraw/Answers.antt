use Rattle.fbc_region.proofs.Asking.{kept_withdrawn, no_noted, stays_withdrawn}
use Rattle.std.proofs.Common.{◌∙◌, sym}
use Rattle.fbc_region.proofs.ledgers.Ledger.withdraw.Goals as goal
use Rattle.fbc_region.proofs.ledgers.Ledger.withdraw.Goals.{else-waited, then-waited}

pub invariant_of-self : goal.invariant_of-self
invariant_of-self c =
    kept_withdrawn c.args.self.now c.self.inside.chronicle c.push.new.self c.self.inside.table c.args.owner c.self.view_is c.self.invariant c.requires.room c.push.ensures.events c.push.ensures.spare
    c.withdraw.new.self c.withdraw.ensures

pub returns-clause-stays : goal.returns-clause-stays
returns-clause-stays c = elim c.if-waited.branch [
  | then-waited w ↦ λ is. absurd (no_noted c.if-waited.result w.result-is is)
  | else-waited w ↦ λ is. stays_withdrawn c.args.self.now c.self.inside.chronicle c.push.new.self c.self.inside.table c.args.owner c.self.view_is c.self.invariant c.requires.room c.push.ensures.events c.push.ensures.spare c.withdraw.new.self c.withdraw.ensures (sym c.waits-waited.ensures ∙ w.if-waited.false)
]
