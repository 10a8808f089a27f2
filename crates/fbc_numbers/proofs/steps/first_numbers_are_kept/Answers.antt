use Rattle.fbc_numbers.proofs.Numbered.{numbered-start}
use Rattle.fbc_numbers.proofs.steps.first_numbers_are_kept.Goals as goal

pub returns : goal.returns
returns c = λ shape file. numbered-start shape file
