use Rattle.fbc_buffers.proofs.Victim.{victim-gives_way}
use Rattle.fbc_buffers.proofs.laws.victim_gives_way.Goals as goal

pub returns : goal.returns
returns c = victim-gives_way
