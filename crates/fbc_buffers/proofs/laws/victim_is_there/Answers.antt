use Rattle.fbc_buffers.proofs.Victim.{victim-some}
use Rattle.fbc_buffers.proofs.laws.victim_is_there.Goals as goal

pub returns : goal.returns
returns c = victim-some
