use Rattle.fbc_world.specs.World.{world_of}
use Rattle.fbc_legal.proofs.Induction.{IsCoherent-legal}
use Rattle.fbc_cache.specs.Edits.{page_after}
use Rattle.fbc_fit.proofs.EditedPages.{fits-edited}
use Rattle.fbc_fit.proofs.SameEdits.{same_after}
use Rattle.fbc_fit.proofs.local.edited_pages_fit.Goals as goal

pub returns : goal.returns
returns _ = λ shape file history owner c page edit landed legal is fits may.
    rw (same_after shape file history owner c fits page edit may (IsCoherent-legal shape file history legal.0) is)
    (fits-edited shape (world_of shape file history) owner page edit c fits may.exclusive (page_after c page edit) may.fits)
