use Rattle.fbc_examples.proofs.FreedNames.{legal_free_page, still_in_file}
use Rattle.fbc_examples.proofs.pages.a_page_is_freed_before_its_name_is_gone.Goals as goal

pub returns-clause-legal : goal.returns-clause-legal
returns-clause-legal c = legal_free_page

pub returns-clause-named : goal.returns-clause-named
returns-clause-named c = still_in_file
