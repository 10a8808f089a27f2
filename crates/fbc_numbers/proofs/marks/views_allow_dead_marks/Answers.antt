use Rattle.fbc_numbers.proofs.DeadMarks.{allows-dead}
use Rattle.fbc_numbers.proofs.marks.views_allow_dead_marks.Goals as goal

pub returns : goal.returns
returns c = λ at owner page number seen stamps numbered guard sees. allows-dead at numbered owner page number guard seen stamps sees
