-- The page inventory is used first.
use Rattle.fbc_desk.proofs.Goes.{goes_on}
use Rattle.fbc_space.proofs.FreeUses.{stops-damaged, stops-missing, uses-free}
use Rattle.fbc_space.proofs.free_steps.hold_free.Goals as goal

pub returns-in-Here-clause-held : goal.returns-in-Here-clause-held
returns-in-Here-clause-held c =
    uses-free c.args.desk.now c.args.page c.inventory_bits.result c.inventory_bits.ensures.bits c.hold_inventory.new.desk c.hold_if_free.new.desk c.hold_if_free.result
    c.in-Here.ensures.held c.in-Here.ensures.after c.hold_if_free.ensures.held c.hold_if_free.ensures.after

pub returns-in-Here-clause-goes : goal.returns-in-Here-clause-goes
returns-in-Here-clause-goes c = goes_on c.args.desk.now c.hold_inventory.new.desk c.hold_if_free.new.desk c.hold_inventory.ensures.goes c.hold_if_free.ensures.goes

pub returns-in-Miss-clause-held : goal.returns-in-Miss-clause-held
returns-in-Miss-clause-held c =
    stops-missing c.args.desk.now c.args.page c.inventory_bits.result c.inventory_bits.ensures.bits c.hold_inventory.new.desk c.in-Miss.need c.in-Miss.ensures.held c.in-Miss.ensures.after

pub returns-in-Damaged-clause-held : goal.returns-in-Damaged-clause-held
returns-in-Damaged-clause-held c =
    stops-damaged c.args.desk.now c.args.page c.inventory_bits.result c.inventory_bits.ensures.bits c.hold_inventory.new.desk c.in-Damaged.page c.in-Damaged.rule c.in-Damaged.ensures.held c.in-Damaged.ensures.after
