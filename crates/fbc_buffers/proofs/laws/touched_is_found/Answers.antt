use Rattle.fbc_buffers.proofs.Found.{buffer_of-touched}
use Rattle.fbc_buffers.proofs.laws.touched_is_found.Goals as goal

pub returns : goal.returns
returns c = buffer_of-touched
