use Rattle.fbc_numbers.proofs.BeginFacts.{open-within}
use Rattle.fbc_numbers.proofs.begins.open_numbers_are_within.Goals as goal

pub returns : goal.returns
returns c = λ at owner t cut upheld numbered is has. open-within at upheld owner numbered t is cut has
