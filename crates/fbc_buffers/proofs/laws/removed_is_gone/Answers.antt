use Rattle.fbc_buffers.proofs.Found.{buffer_of-without}
use Rattle.fbc_buffers.proofs.laws.removed_is_gone.Goals as goal

pub returns : goal.returns
returns c = buffer_of-without
