use Rattle.fbc_legal.proofs.Told.{copy_alive, copy_level}
use Rattle.fbc_legal.proofs.coherence.copies_are_held.Goals as goal

pub returns-clause-alive : goal.returns-clause-alive
returns-clause-alive c = λ shape file history owner page content legal. copy_alive shape file history legal owner page content

pub returns-clause-level : goal.returns-clause-level
returns-clause-level c = λ shape file history owner page content legal. copy_level shape file history legal owner page content
