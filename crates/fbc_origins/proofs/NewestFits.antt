-- The newest content is what an edit of an owner that has the page in EX begins with.
use Rattle.std.proofs.Common.{◌≡◌, ℕ, Some}
use Rattle.fbc_kinds.specs.declared.edits.Edit.{Edit}
use Rattle.fbc_kinds.specs.declared.pages.Page.{Page}
use Rattle.fbc_page_edits.specs.Allowed.{Fits}
use Rattle.fbc_world.specs.World.{World, page_after}
use Rattle.fbc_legal.specs.Coherent.{IsCoherent}
use Rattle.fbc_legal.specs.Guards.{GuardOfEdit}
use Rattle.fbc_legal.specs.Scene.{Scene, newest_at}
use Rattle.fbc_legal.proofs.HeaderGrowth.{exclusive-own, newest-own}
use Rattle.fbc_closed_cuts.proofs.UpheldEdits.{fits_of}

pub newest-fits : (at : Scene) → IsCoherent at.world → (owner page : ℕ) (e : Edit) (content : Page) → GuardOfEdit at owner page e → page_after at.shape at.world owner page e ≡ Some content
    → Fits at.shape e (newest_at at page) content
newest-fits at h owner page e content g is =
    let w : World = at.world in
    fits_of at.shape e (newest_at at page) content (rw (newest-own owner (w.kept page) (w.draft page) (exclusive-own w h owner page g.exclusive)) is)
