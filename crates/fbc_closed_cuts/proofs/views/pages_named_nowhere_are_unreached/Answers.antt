use Rattle.fbc_closed_cuts.proofs.CutLaws.{named_nowhere-unreached}
use Rattle.fbc_closed_cuts.proofs.views.pages_named_nowhere_are_unreached.Goals as goal

pub returns : goal.returns
returns c = λ shape file before owner page other edit landed content cut legal is in_cut nowhere apart none.
    named_nowhere-unreached shape file before owner page edit landed content cut is.fits other legal is.closed in_cut nowhere apart none
