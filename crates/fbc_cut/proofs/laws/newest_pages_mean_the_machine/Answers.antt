use Rattle.fbc_cut.proofs.laws.newest_pages_mean_the_machine.Goals as goal

pub returns : goal.returns
returns c shape file history of_shape sound legal =
    (c.newest_pages_are_meant.ensures shape file history (c.legal_histories_are_whole.ensures shape file history of_shape sound legal) (c.legal_histories_are_simulated.ensures shape file history of_shape sound legal)).means
