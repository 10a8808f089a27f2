use Rattle.fbc_console.proofs.PlayedMachine.{tell_replies}
use Rattle.fbc_console.proofs.laws.answers_are_the_machines.Goals as goal

pub returns : goal.returns
returns c steps = tell_replies steps
