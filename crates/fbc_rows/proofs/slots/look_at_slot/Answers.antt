-- The slot names what its pointer page shows after the look.
use Rattle.fbc_chains.specs.Showing.{shown_by}
use Rattle.fbc_rows.proofs.Ways.{slot-named}
use Rattle.fbc_rows.proofs.slots.look_at_slot.Goals as goal

pub returns-in-Here-clause-slot : goal.returns-in-Here-clause-slot
returns-in-Here-clause-slot c =
    slot-named (shown_by c.args.desk.now.cache) (shown_by c.look_at_pointer.new.desk.cache) c.args.relation c.args.sequence c.slots.result c.slot_of.result
    c.look_at_pointer.ensures.same c.slots.ensures.slots c.in-Here.ensures.held c.slot_of.ensures
