use Rattle.std.proofs.Common.{◌∙◌, ap, sym, set}
use Rattle.std.proofs.lemmas.List.Edits.{map_over_more}
use Rattle.fbc_kinds.specs.Machine.{ended}
use Rattle.fbc_machine.proofs.machine.Machine.end.Goals as goal

pub loop-transaction-preserved : goal.loop-transaction-preserved
loop-transaction-preserved c =
    ap (set c.loop-transaction.transaction-items c.loop-transaction.transaction-index) (c.end_if_open.ensures ∙ ap (ended c.args.who c.args.standing) (sym c.transaction-item.is))
    ∙ map_over_more (ended c.args.who c.args.standing) c.deref_mut-transaction-items.result.now c.loop-transaction.transaction-items c.loop-transaction.transaction-index c.transaction-item.result
    c.loop-transaction-test.true c.loop-transaction.invariant c.transaction-item.is
