use Rattle.fbc_legal.proofs.Told.{draft_alone, draft_level, exclusive_copy}
use Rattle.fbc_legal.proofs.coherence.one_draft.Goals as goal

pub returns-clause-copy : goal.returns-clause-copy
returns-clause-copy c = λ shape file history page drafted other legal is apart. exclusive_copy shape file history legal drafted.owner other page (draft_level shape file history legal page drafted is) apart

pub returns-clause-level : goal.returns-clause-level
returns-clause-level c = λ shape file history page drafted other legal. draft_alone shape file history legal page drafted other
