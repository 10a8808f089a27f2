use Rattle.std.proofs.Common.{◌≡◌, true}
use Rattle.fbc_firm_facts.proofs.EventsLeave.{others-keep, own-keep}
use Rattle.fbc_firm_facts.proofs.HeaderFactsStay.{header-kept}
use Rattle.fbc_firm_facts.proofs.headers.header_facts_stay_firm.Goals as goal

pub returns-clause-others : goal.returns-clause-others
returns-clause-others c = λ shape file before moment owner passes of_shape sound legal apart grows firm.
    others-keep shape file before owner (λ view. passes view ≡ true) moment.event.actor moment.landed apart moment.event.act legal
    (header-kept shape file before owner moment.event.actor moment.landed passes (c.legal_histories_are_whole.ensures shape file before of_shape sound legal.0).order.upheld grows moment.event.act) firm

pub returns-clause-own : goal.returns-clause-own
returns-clause-own c = λ shape file before moment passes of_shape sound legal lives grows firm.
    own-keep shape file before moment.event.actor (λ view. passes view ≡ true) moment.landed moment.event.act legal lives
    (header-kept shape file before moment.event.actor moment.event.actor moment.landed passes (c.legal_histories_are_whole.ensures shape file before of_shape sound legal.0).order.upheld grows moment.event.act) firm
