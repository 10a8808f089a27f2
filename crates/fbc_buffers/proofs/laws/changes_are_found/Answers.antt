use Rattle.fbc_buffers.proofs.Found.{buffer_of-map}
use Rattle.fbc_buffers.proofs.laws.changes_are_found.Goals as goal

pub returns : goal.returns
returns c = buffer_of-map
