use Rattle.std.proofs.Common.{◌≡◌, true}
use Rattle.fbc_numbers.specs.Numbers.{is_committed_in}
use Rattle.fbc_firm_facts.proofs.EventsLeave.{others-keep, own-keep}
use Rattle.fbc_firm_facts.proofs.NumbersStay.{commits-kept}
use Rattle.fbc_firm_facts.proofs.numbers.commits_stay_firm.Goals as goal

pub returns-clause-others : goal.returns-clause-others
returns-clause-others c = λ shape file before moment owner number of_shape sound legal apart firm.
    others-keep shape file before owner (λ view. is_committed_in view number ≡ true) moment.event.actor moment.landed apart moment.event.act legal
    (commits-kept shape file before owner moment.event.actor moment.landed (c.legal_histories_are_whole.ensures shape file before of_shape sound legal.0) number moment.event.act) firm

pub returns-clause-own : goal.returns-clause-own
returns-clause-own c = λ shape file before moment number of_shape sound legal lives firm.
    own-keep shape file before moment.event.actor (λ view. is_committed_in view number ≡ true) moment.landed moment.event.act legal lives
    (commits-kept shape file before moment.event.actor moment.event.actor moment.landed (c.legal_histories_are_whole.ensures shape file before of_shape sound legal.0) number moment.event.act) firm
