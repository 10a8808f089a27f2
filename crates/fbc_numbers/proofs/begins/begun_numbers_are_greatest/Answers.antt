use Rattle.fbc_numbers.proofs.BeginFacts.{begin-greatest}
use Rattle.fbc_numbers.proofs.begins.begun_numbers_are_greatest.Goals as goal

pub returns : goal.returns
returns c = λ at owner number word other t upheld numbered may is. begin-greatest at upheld owner number word may numbered other t is
