use Rattle.fbc_legal.specs.Scene.{scene_of}
use Rattle.fbc_firm_facts.proofs.OwnCellsSeen.{held-seen, lone-seen, none-seen}
use Rattle.fbc_firm_facts.proofs.cells.own_cells_show_what_is_seen.Goals as goal

pub returns-clause-held : goal.returns-clause-held
returns-clause-held c = λ shape file history owner relation row t version of_shape sound legal open_is shows.
    held-seen (scene_of shape file history) (c.legal_histories_are_whole.ensures shape file history of_shape sound legal)
    (c.legal_histories_are_simulated.ensures shape file history of_shape sound legal) owner t open_is relation row version shows

pub returns-clause-alone : goal.returns-clause-alone
returns-clause-alone c = λ shape file history owner relation row t version of_shape sound legal open_is shows.
    lone-seen (scene_of shape file history) (c.legal_histories_are_whole.ensures shape file history of_shape sound legal)
    (c.legal_histories_are_simulated.ensures shape file history of_shape sound legal) owner t open_is relation row version shows

pub returns-clause-no_top : goal.returns-clause-no_top
returns-clause-no_top c = λ shape file history owner relation row t version of_shape sound legal open_is shows.
    none-seen (scene_of shape file history) (c.legal_histories_are_whole.ensures shape file history of_shape sound legal)
    (c.legal_histories_are_simulated.ensures shape file history of_shape sound legal) owner t open_is relation row version shows
