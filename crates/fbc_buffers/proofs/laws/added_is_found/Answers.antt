use Rattle.fbc_buffers.proofs.Found.{buffer_of-push}
use Rattle.fbc_buffers.proofs.laws.added_is_found.Goals as goal

pub returns : goal.returns
returns c = buffer_of-push
