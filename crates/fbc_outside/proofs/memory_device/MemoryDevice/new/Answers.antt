use Rattle.fbc_outside.proofs.LandingLemmas.{landings_none}
use Rattle.fbc_outside.proofs.memory_device.MemoryDevice.new.Goals as goal

pub returns-clause-landings : goal.returns-clause-landings
returns-clause-landings c = landings_none c.args.fails.items
