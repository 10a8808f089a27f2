use Rattle.fbc_firm_facts.proofs.StandsHold.{no-page-holds}
use Rattle.fbc_firm_facts.proofs.notes.rows_without_pages_show_nothing.Goals as goal

pub returns : goal.returns
returns c = λ shape file history owner relation row t notes of_shape sound legal open_is all may.
    no-page-holds shape file history (c.legal_histories_are_whole.ensures shape file history of_shape sound legal)
    (c.legal_histories_are_simulated.ensures shape file history of_shape sound legal) owner t open_is notes all relation row may
