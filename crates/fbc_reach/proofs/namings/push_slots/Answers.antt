use Rattle.std.proofs.Common.{◌*◌, length, arith, refl}
use Rattle.fbc_reach.proofs.Rows.{slots_step}
use Rattle.fbc_reach.proofs.namings.push_slots.Goals as goal

pub loop-slot-preserved : goal.loop-slot-preserved
loop-slot-preserved c =
    slots_step c.args.relation (c.args.sequence * length c.args.slots.now) _ c.args.namings.now.items c.loop-slot.namings.items c.push_slot.new.namings.items c.args.slots.now c.loop-slot.slot
    (omega arith) refl c.loop-slot.invariant c.in_ok-push_slot.ensures
