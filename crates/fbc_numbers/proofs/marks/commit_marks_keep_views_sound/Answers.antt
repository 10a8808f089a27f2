use Rattle.fbc_numbers.proofs.DeadMarks.{commit-sound}
use Rattle.fbc_numbers.proofs.marks.commit_marks_keep_views_sound.Goals as goal

pub returns : goal.returns
returns c = λ shape file past number. commit-sound shape file past number
