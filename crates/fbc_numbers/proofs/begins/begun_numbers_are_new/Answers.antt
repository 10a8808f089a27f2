use Rattle.fbc_numbers.proofs.BeginFacts.{begin-new}
use Rattle.fbc_numbers.proofs.begins.begun_numbers_are_new.Goals as goal

pub returns : goal.returns
returns c = λ at owner number word cut upheld may. begin-new at upheld owner number word may cut
