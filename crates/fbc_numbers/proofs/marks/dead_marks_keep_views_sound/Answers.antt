use Rattle.fbc_numbers.proofs.DeadMarks.{dead-sound}
use Rattle.fbc_numbers.proofs.marks.dead_marks_keep_views_sound.Goals as goal

pub returns : goal.returns
returns c = λ shape file past number numbered. dead-sound shape file past number numbered
