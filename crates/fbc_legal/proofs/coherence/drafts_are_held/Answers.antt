use Rattle.fbc_legal.proofs.Told.{draft_alive, draft_copy, draft_level}
use Rattle.fbc_legal.proofs.coherence.drafts_are_held.Goals as goal

pub returns-clause-alive : goal.returns-clause-alive
returns-clause-alive c = λ shape file history page drafted legal. draft_alive shape file history legal page drafted

pub returns-clause-level : goal.returns-clause-level
returns-clause-level c = λ shape file history page drafted legal. draft_level shape file history legal page drafted

pub returns-clause-copy : goal.returns-clause-copy
returns-clause-copy c = λ shape file history page drafted legal. draft_copy shape file history legal page drafted
