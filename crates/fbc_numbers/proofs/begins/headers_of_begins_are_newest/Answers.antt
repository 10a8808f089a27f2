use Rattle.fbc_numbers.proofs.BeginFacts.{begin-header}
use Rattle.fbc_numbers.proofs.begins.headers_of_begins_are_newest.Goals as goal

pub returns : goal.returns
returns c = λ at owner number word cut upheld may has. begin-header at upheld owner number word may cut has
