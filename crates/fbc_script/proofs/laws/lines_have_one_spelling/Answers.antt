use Rattle.fbc_script.proofs.Inversion.{line-is}
use Rattle.fbc_script.proofs.laws.lines_have_one_spelling.Goals as goal

pub returns : goal.returns
returns c threads line order read = (line-is threads line order read).0
