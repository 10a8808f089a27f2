use Rattle.fbc_examples.proofs.StalePages.{legal_page_beside, not_before, still_in_file}
use Rattle.fbc_examples.proofs.pages.a_page_is_made_beside_a_new_pointer_page.Goals as goal

pub returns-clause-legal : goal.returns-clause-legal
returns-clause-legal c = legal_page_beside

pub returns-clause-named : goal.returns-clause-named
returns-clause-named c = still_in_file

pub returns-clause-order : goal.returns-clause-order
returns-clause-order c = not_before
