use Rattle.fbc_firm_facts.proofs.NotesStay.{lasting-kept}
use Rattle.fbc_firm_facts.proofs.notes.own_events_leave_lasting_notes.Goals as goal

pub returns : goal.returns
returns c = λ shape file before moment note of_shape sound legal lives lasts holds.
    lasting-kept shape file before moment.event.actor moment.landed moment.event.act (c.legal_histories_are_whole.ensures shape file before of_shape sound legal.0) legal lives note lasts holds
