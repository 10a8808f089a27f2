use Rattle.std.proofs.Common.{◌∷◌}
use Rattle.fbc_firm_facts.proofs.NotesStay.{note-kept}
use Rattle.fbc_firm_facts.proofs.notes.others_leave_supported_notes.Goals as goal

pub returns : goal.returns
returns c = λ shape file before moment owner note of_shape sound legal apart pinned holds.
    note-kept shape file before owner moment.event.actor moment.landed moment.event.act (c.legal_histories_are_whole.ensures shape file before of_shape sound legal.0)
    (c.legal_histories_are_simulated.ensures shape file before of_shape sound legal.0)
    (c.legal_histories_are_whole.ensures shape file (moment ∷ before) of_shape sound legal)
    (c.legal_histories_are_simulated.ensures shape file (moment ∷ before) of_shape sound legal) legal apart
    (λ relation row. c.events_of_others_leave_what_is_seen.ensures shape file before moment owner relation row of_shape sound legal apart)
    note pinned holds
