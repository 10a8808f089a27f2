use Rattle.std.proofs.Common.{◌≡◌, true}
use Rattle.fbc_notes.specs.RowNames.{names_row}
use Rattle.fbc_firm_facts.proofs.EventsLeave.{others-keep}
use Rattle.fbc_firm_facts.proofs.NamesStay.{names-kept}
use Rattle.fbc_firm_facts.proofs.named.pinned_pages_stay_named.Goals as goal

pub returns : goal.returns
returns c = λ shape file before moment owner relation sequence pointer page of_shape sound legal apart pinned firm.
    others-keep shape file before owner (λ seen. names_row shape relation sequence pointer page seen ≡ true) moment.event.actor moment.landed apart moment.event.act legal
    (names-kept shape file before owner moment.event.actor moment.landed relation sequence pointer page (c.legal_histories_are_whole.ensures shape file before of_shape sound legal.0).order.upheld apart pinned moment.event.act) firm
