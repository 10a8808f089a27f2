use Rattle.fbc_closed_cuts.proofs.CutLaws.{edit-spares, edit-views}
use Rattle.fbc_closed_cuts.proofs.views.edits_change_views_by_their_page.Goals as goal

pub returns-clause-without : goal.returns-clause-without
returns-clause-without c = λ shape file before owner page edit landed content cut is out. edit-spares shape file before owner page edit landed content cut is.fits is.closed out

pub returns-clause-with : goal.returns-clause-with
returns-clause-with c = λ shape file before owner page edit landed content cut is in_cut. edit-views shape file before owner page edit landed content cut is.fits is.closed in_cut
