use Rattle.fbc_cut.proofs.laws.every_cut_is_sound.Goals as goal

pub returns : goal.returns
returns c shape file history cut of_shape sound legal closed = (c.legal_histories_are_whole.ensures shape file history of_shape sound legal).order.upheld.sound cut closed
