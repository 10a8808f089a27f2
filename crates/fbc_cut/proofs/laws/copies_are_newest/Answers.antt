use Rattle.fbc_cut.proofs.laws.copies_are_newest.Goals as goal

pub returns : goal.returns
returns c shape file history legal = (c.legal_worlds_are_coherent.ensures shape file history legal).newest
