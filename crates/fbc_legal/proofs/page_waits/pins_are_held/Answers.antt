use Rattle.fbc_legal.proofs.WaitsTold.{pin_alive, pin_level}
use Rattle.fbc_legal.proofs.page_waits.pins_are_held.Goals as goal

pub returns-clause-alive : goal.returns-clause-alive
returns-clause-alive c = λ shape file history owner page legal. pin_alive shape file history legal owner page

pub returns-clause-level : goal.returns-clause-level
returns-clause-level c = λ shape file history owner page legal. pin_level shape file history legal owner page
