use Rattle.fbc_examples.proofs.TakenPages.{legal_freed_page}
use Rattle.fbc_examples.proofs.pages.a_data_page_comes_and_goes.Goals as goal

pub returns : goal.returns
returns c = legal_freed_page
