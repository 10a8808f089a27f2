use Rattle.fbc_numbers.proofs.Numbered.{legal-numbered}
use Rattle.fbc_numbers.proofs.histories.marks_are_true.Goals as goal

pub returns : goal.returns
returns c = λ shape file history legal upheld. (legal-numbered shape file history legal upheld).true_marks
