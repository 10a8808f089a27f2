use Rattle.std.proofs.Common.{◌≡◌, true}
use Rattle.fbc_firm_facts.proofs.EditsLeave.{edits-leave}
use Rattle.fbc_firm_facts.proofs.EventsLeave.{others-keep}
use Rattle.fbc_firm_facts.proofs.events.events_of_others_leave_firm_facts.Goals as goal

pub returns : goal.returns
returns c = λ shape file before moment owner passes of_shape sound legal apart leaves firm.
    others-keep shape file before owner (λ view. passes view ≡ true) moment.event.actor moment.landed apart moment.event.act legal
    (λ page e is edits holds.
    edits-leave shape file before moment.event.actor page e moment.landed edits (c.legal_histories_are_whole.ensures shape file before of_shape sound legal.0).order.upheld owner (λ view. passes view ≡ true) (leaves page e is) holds)
    firm
