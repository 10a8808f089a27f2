use Rattle.std.proofs.Common.{◌≡◌, ◌∙◌, sym}
use Rattle.std.specs.Prelude.{Some}
use Rattle.fbc_kinds.specs.Machine.{open_transaction}
use Rattle.fbc_machine.specs.Shown.{shown}
use Rattle.fbc_machine.proofs.steps.scan.Goals as goal

pub returns : goal.returns
returns c =
    let open_is : open_transaction (shown c.args.machine.now) c.args.who ≡ Some c.transaction.result.now = sym c.in-Some.ensures.transaction ∙ c.transaction.ensures in
    rw (open_is, c.in_ok-new.ensures, ← c.items.ensures) c.in_ok-rows.ensures
