use Rattle.fbc_examples.proofs.WornRows.{legal_written_mark}
use Rattle.fbc_examples.proofs.clearing.old_versions_go.Goals as goal

pub returns : goal.returns
returns c = legal_written_mark
