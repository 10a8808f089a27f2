use Rattle.fbc_closed_cuts.proofs.CutLaws.{edit-sees}
use Rattle.fbc_closed_cuts.proofs.views.views_see_edits.Goals as goal

pub returns : goal.returns
returns c = λ shape file before owner page edit landed content cut legal is in_cut. edit-sees shape file before owner page edit landed content cut is.fits legal is.closed in_cut
