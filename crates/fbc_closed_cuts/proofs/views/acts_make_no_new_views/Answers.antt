use Rattle.fbc_closed_cuts.proofs.CutLaws.{no-new-views}
use Rattle.fbc_closed_cuts.proofs.views.acts_make_no_new_views.Goals as goal

pub returns : goal.returns
returns c = λ shape file before moment cut legal plain closed. no-new-views shape file before moment cut legal plain closed
