use Rattle.std.proofs.Common.{arith}
use Rattle.fbc_reach.specs.declared.namings.Role.TheVariants as role
use Rattle.fbc_reach.proofs.Rows.{row_step}
use Rattle.fbc_reach.proofs.namings.push_tips.Goals as goal

pub loop-sequence-preserved : goal.loop-sequence-preserved
loop-sequence-preserved c =
    row_step role.Tip c.args.namings.now.items c.loop-sequence.namings.items c.push.new.self.items c.args.tips.now c.loop-sequence.sequence
    (omega arith) c.loop-sequence.invariant c.in_ok-push.ensures.items
