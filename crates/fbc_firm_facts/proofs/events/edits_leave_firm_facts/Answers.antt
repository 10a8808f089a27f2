use Rattle.std.proofs.Common.{◌≡◌, true}
use Rattle.fbc_firm_facts.proofs.EditsLeave.{edits-leave}
use Rattle.fbc_firm_facts.proofs.events.edits_leave_firm_facts.Goals as goal

pub returns : goal.returns
returns c = λ shape file before actor page edit landed owner passes of_shape sound legal leaves firm.
    edits-leave shape file before actor page edit landed legal (c.legal_histories_are_whole.ensures shape file before of_shape sound legal.0).order.upheld owner (λ view. passes view ≡ true) leaves firm
