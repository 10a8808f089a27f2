use Rattle.std.proofs.Common.{◌≡◌, true}
use Rattle.fbc_closed_cuts.proofs.CutLaws.{leans-shown}
use Rattle.fbc_closed_cuts.proofs.views.views_show_what_edits_lean_on.Goals as goal

pub returns : goal.returns
returns c = λ shape file before owner page other edit landed content cut passes is in_cut shown. leans-shown shape file before owner page edit landed content cut is.fits (λ found stamps. passes found stamps ≡ true) other is.closed in_cut shown
