-- What is called damaged at each stage is damage to the part.
use Rattle.fbc_desk.specs.Calls.{stays}
use Rattle.fbc_rows.proofs.Remembered.{damages-later, damages-later-some}
use Rattle.fbc_rows.proofs.inserting.go_on.Goals as goal

pub returns-in-Slots-clause-damages : goal.returns-in-Slots-clause-damages
returns-in-Slots-clause-damages c = damages-later-some c.find_slot.new.desk c.args.relation c.args.part.now c.find_slot.result c.find_slot.ensures.damages

pub returns-in-Header-clause-damages : goal.returns-in-Header-clause-damages
returns-in-Header-clause-damages c = damages-later c.look_for_pointers.new.desk c.args.relation c.args.part.now c.look_for_pointers.result c.look_for_pointers.ensures.damages

pub returns-in-Find-clause-damages : goal.returns-in-Find-clause-damages
returns-in-Find-clause-damages c = damages-later-some c.find_page.new.desk c.args.relation c.args.part.now c.find_page.result (c.find_page.ensures.damages c.args.relation)

pub returns-in-Get-clause-goes : goal.returns-in-Get-clause-goes
returns-in-Get-clause-goes c = stays c.args.desk.now

pub returns-in-Pointer-clause-damages : goal.returns-in-Pointer-clause-damages
returns-in-Pointer-clause-damages c = damages-later-some c.use_pointer.new.desk c.args.relation c.args.part.now c.use_pointer.result c.use_pointer.ensures.damages

pub returns-in-Free-clause-damages : goal.returns-in-Free-clause-damages
returns-in-Free-clause-damages c = damages-later-some c.use_page.new.desk c.args.relation c.args.part.now c.use_page.result (c.use_page.ensures.damages c.args.relation)
