use Rattle.fbc_numbers.proofs.CutFacts.{never-committed}
use Rattle.fbc_numbers.proofs.views.uncommitted_numbers_are_so_in_each_view.Goals as goal

pub returns-clause-newest : goal.returns-clause-newest
returns-clause-newest c = λ at number cut numbered closed none. never-committed at.world numbered.grow number none cut closed

pub returns-clause-open_one : goal.returns-clause-open_one
returns-clause-open_one c = λ at owner t cut numbered closed is unmarked. never-committed at.world numbered.grow t.number (numbered.uncommitted owner t is unmarked) cut closed
