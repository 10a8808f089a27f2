use Rattle.std.proofs.Common.{arith}
use Rattle.fbc_outside.proofs.LandingLemmas.{landings_next}
use Rattle.fbc_outside.proofs.memory_device.MemoryDeviceDevice.write_at.Goals as goal

pub returns-in-None-clause-landings : goal.returns-in-None-clause-landings
returns-in-None-clause-landings c = landings_next _ _ _ (omega arith)

pub returns-in-Some-true-clause-landings : goal.returns-in-Some-true-clause-landings
returns-in-Some-true-clause-landings c = landings_next _ _ _ (omega arith)

pub returns-in-Some-false-clause-landings : goal.returns-in-Some-false-clause-landings
returns-in-Some-false-clause-landings c = landings_next _ _ _ (omega arith)
