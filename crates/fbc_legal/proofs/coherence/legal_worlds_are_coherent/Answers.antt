use Rattle.fbc_legal.proofs.Induction.{IsCoherent-legal}
use Rattle.fbc_legal.proofs.coherence.legal_worlds_are_coherent.Goals as goal

pub returns : goal.returns
returns c = IsCoherent-legal
