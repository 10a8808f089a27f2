use Rattle.std.proofs.Common.{refl}
use Rattle.fbc_examples.proofs.ReopenedFiles.{legal_lost_row}
use Rattle.fbc_examples.proofs.survivors.a_file_is_opened_again.Goals as goal

pub returns-clause-legal : goal.returns-clause-legal
returns-clause-legal c = legal_lost_row

pub returns-clause-free : goal.returns-clause-free
returns-clause-free c = refl

pub returns-clause-gone : goal.returns-clause-gone
returns-clause-gone c = refl
