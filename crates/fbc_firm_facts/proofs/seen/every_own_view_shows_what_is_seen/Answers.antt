use Rattle.fbc_legal.specs.Scene.{scene_of}
use Rattle.fbc_firm_facts.proofs.OwnViewsSee.{own-view-shows}
use Rattle.fbc_firm_facts.proofs.seen.every_own_view_shows_what_is_seen.Goals as goal

pub returns : goal.returns
returns c = λ shape file history owner relation row t cut of_shape sound legal open_is own.
    own-view-shows (scene_of shape file history)
    (c.legal_histories_are_whole.ensures shape file history of_shape sound legal)
    (c.legal_histories_are_simulated.ensures shape file history of_shape sound legal) owner t open_is cut own relation row
