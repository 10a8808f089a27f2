use Rattle.fbc_region.specs.Shared.{history_of}
use Rattle.fbc_region.proofs.journals.cuts_of_journals_are_sound.Goals as goal

pub returns : goal.returns
returns c size bytes journal file landings cut of_shape sound lawful closed = c.every_cut_is_sound.ensures journal.shape file (history_of journal landings) cut of_shape sound lawful.legal closed
