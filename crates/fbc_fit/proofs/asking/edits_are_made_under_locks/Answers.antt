use Rattle.std.proofs.Common.{◌∙◌, ap, Option, is_some}
use Rattle.fbc_kinds.specs.declared.pages.Page.{Page}
use Rattle.fbc_world.specs.World.{world_of}
use Rattle.fbc_legal.proofs.Induction.{IsCoherent-legal}
use Rattle.fbc_fit.proofs.HeldPages.{exclusive-is}
use Rattle.fbc_fit.proofs.SameEdits.{base-is, same_after}
use Rattle.fbc_fit.proofs.asking.edits_are_made_under_locks.Goals as goal

pub returns-clause-exclusive : goal.returns-clause-exclusive
returns-clause-exclusive _ = λ shape file history owner c page edit is fits may. exclusive-is shape (world_of shape file history) owner c is fits page may.exclusive

pub returns-clause-fits : goal.returns-clause-fits
returns-clause-fits _ = λ shape file history owner c page edit legal is fits may.
    ap (λ (content : Option Page). is_some content) (same_after shape file history owner c fits page edit may (IsCoherent-legal shape file history legal) is) ∙ may.fits

pub returns-clause-base : goal.returns-clause-base
returns-clause-base _ = λ shape file history owner c page edit fits may. base-is shape file history owner c fits page edit may
