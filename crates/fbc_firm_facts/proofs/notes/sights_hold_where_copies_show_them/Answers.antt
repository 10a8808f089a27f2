use Rattle.fbc_firm_facts.proofs.SightsHold.{sight-holds}
use Rattle.fbc_firm_facts.proofs.notes.sights_hold_where_copies_show_them.Goals as goal

pub returns : goal.returns
returns c = λ shape file history owner relation row t notes value of_shape sound legal open_is all may.
    sight-holds shape file history (c.legal_histories_are_whole.ensures shape file history of_shape sound legal)
    (c.legal_histories_are_simulated.ensures shape file history of_shape sound legal) owner t open_is notes all relation row value may
