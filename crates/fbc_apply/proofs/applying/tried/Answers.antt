use Rattle.std.proofs.Common.{arith}
use Rattle.fbc_kinds.specs.declared.edits.Edit.TheVariants.{SetNext, AddTip, AddPointer, AddInventory, TakePage, FreePage, Mark, PutCell, Format}
use Rattle.fbc_kinds.specs.Edits.{Tried, applied}
use Rattle.fbc_kinds.proofs.EditsKept.{kept_result, kept_tried}
use Rattle.fbc_apply.proofs.applying.tried.Goals as goal

pub returns-in-SetNext-clause-limits : goal.returns-in-SetNext-clause-limits
returns-in-SetNext-clause-limits c =
    kept_tried c.args.shape.now (SetNext c.in-SetNext.next) c.args.page.now c.set_next.new.page c.set_next.result c.requires.shape tt c.requires.limits c.set_next.ensures

pub returns-in-AddTip-clause-limits : goal.returns-in-AddTip-clause-limits
returns-in-AddTip-clause-limits c =
    kept_result c.args.shape.now (AddTip c.in-AddTip.number) c.args.page.now c.add_tip.new.page c.add_tip.result c.requires.shape (omega arith) c.requires.limits c.add_tip.ensures.ok c.add_tip.ensures.err

pub returns-in-AddPointer-clause-limits : goal.returns-in-AddPointer-clause-limits
returns-in-AddPointer-clause-limits c =
    kept_result c.args.shape.now (AddPointer c.in-AddPointer.relation c.in-AddPointer.number) c.args.page.now c.add_pointer.new.page c.add_pointer.result c.requires.shape (omega arith) c.requires.limits c.add_pointer.ensures.ok c.add_pointer.ensures.err

pub returns-in-AddInventory-clause-limits : goal.returns-in-AddInventory-clause-limits
returns-in-AddInventory-clause-limits c =
    kept_tried c.args.shape.now AddInventory c.args.page.now c.add_inventory.new.page c.add_inventory.result c.requires.shape tt c.requires.limits c.add_inventory.ensures

pub returns-in-TakePage-clause-limits : goal.returns-in-TakePage-clause-limits
returns-in-TakePage-clause-limits c =
    kept_tried c.args.shape.now (TakePage c.in-TakePage.number) c.args.page.now c.take_page.new.page c.take_page.result c.requires.shape tt c.requires.limits c.take_page.ensures

pub returns-in-FreePage-clause-limits : goal.returns-in-FreePage-clause-limits
returns-in-FreePage-clause-limits c =
    kept_tried c.args.shape.now (FreePage c.in-FreePage.number) c.args.page.now c.free_page.new.page c.free_page.result c.requires.shape tt c.requires.limits c.free_page.ensures

pub returns-in-Mark-clause-limits : goal.returns-in-Mark-clause-limits
returns-in-Mark-clause-limits c =
    kept_tried c.args.shape.now (Mark c.in-Mark.number c.in-Mark.state) c.args.page.now c.mark.new.page c.mark.result c.requires.shape tt c.requires.limits c.mark.ensures

pub returns-in-PutCell-clause-limits : goal.returns-in-PutCell-clause-limits
returns-in-PutCell-clause-limits c =
    kept_tried c.args.shape.now (PutCell c.in-PutCell.cell c.in-PutCell.content) c.args.page.now c.put_cell.new.page c.put_cell.result c.requires.shape c.put_cell.ensures.numbers c.requires.limits c.put_cell.ensures.tried

pub returns-in_ok-after-in-Format-clause-limits : goal.returns-in_ok-after-in-Format-clause-limits
returns-in_ok-after-in-Format-clause-limits c =
    let edit = Format c.in-Format.kind c.in-Format.number c.in-Format.relation c.in-Format.sequence in
    let tried : Tried c.replaced.result (applied c.args.shape.now edit c.args.page.now) c.args.page.now c.replaced.new.page = rw c.in_ok-after-in-Format.ensures.ok at c.replaced.ensures in
    kept_tried c.args.shape.now edit c.args.page.now c.replaced.new.page c.replaced.result c.requires.shape (omega arith, omega arith) c.requires.limits tried
