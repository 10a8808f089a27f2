use Rattle.fbc_numbers.proofs.OpensApart.{apart-start}
use Rattle.fbc_numbers.proofs.opens_apart.first_opens_stand_apart.Goals as goal

pub returns : goal.returns
returns c = λ shape file. apart-start shape file
