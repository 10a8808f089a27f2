use Rattle.fbc_region.specs.Shared.{history_of}
use Rattle.fbc_region.proofs.journals.journals_are_coherent.Goals as goal

pub returns : goal.returns
returns c size bytes journal file landings lawful = (c.legal_worlds_are_coherent.ensures journal.shape file (history_of journal landings) lawful.legal).newest
