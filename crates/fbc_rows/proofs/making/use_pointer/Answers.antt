-- Where the pointer page is in use, its slot tells.
use Rattle.fbc_rows.proofs.Uses.{pointer-comes}
use Rattle.fbc_rows.proofs.making.use_pointer.Goals as goal

pub returns-in-Here-clause-comes : goal.returns-in-Here-clause-comes
returns-in-Here-clause-comes c =
    pointer-comes c.args.desk.now c.hold_pointer.new.desk c.args.relation c.slots.result c.args.new c.args.part.now c.go_on_if_empty.new.part c.go_on_if_empty.result
    c.slots.ensures.slots c.in-Here.ensures.held c.hold_pointer.ensures.same c.go_on_if_empty.ensures.comes
