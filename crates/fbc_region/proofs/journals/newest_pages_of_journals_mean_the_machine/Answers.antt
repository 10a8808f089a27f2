use Rattle.fbc_region.specs.Shared.{history_of}
use Rattle.fbc_region.proofs.journals.newest_pages_of_journals_mean_the_machine.Goals as goal

pub returns : goal.returns
returns c size bytes journal file landings of_shape sound lawful = c.newest_pages_mean_the_machine.ensures journal.shape file (history_of journal landings) of_shape sound lawful.legal
