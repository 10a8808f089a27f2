use Rattle.fbc_legal.proofs.Told.{pair_alive, pair_draft, pair_level}
use Rattle.fbc_legal.proofs.coherence.pairs_are_held.Goals as goal

pub returns-clause-alive : goal.returns-clause-alive
returns-clause-alive c = λ shape file history owner high low legal. pair_alive shape file history legal owner high low

pub returns-clause-draft : goal.returns-clause-draft
returns-clause-draft c = λ shape file history owner high low legal. pair_draft shape file history legal owner high low

pub returns-clause-level : goal.returns-clause-level
returns-clause-level c = λ shape file history owner high low legal. pair_level shape file history legal owner high low
