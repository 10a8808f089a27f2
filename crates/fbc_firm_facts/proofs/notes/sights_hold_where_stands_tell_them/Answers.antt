use Rattle.fbc_firm_facts.proofs.StandsHold.{below-holds}
use Rattle.fbc_firm_facts.proofs.notes.sights_hold_where_stands_tell_them.Goals as goal

pub returns : goal.returns
returns c = λ shape file history owner relation row t notes value of_shape sound legal open_is all may.
    below-holds shape file history (c.legal_histories_are_whole.ensures shape file history of_shape sound legal)
    (c.legal_histories_are_simulated.ensures shape file history of_shape sound legal) owner t open_is notes all relation row value may
