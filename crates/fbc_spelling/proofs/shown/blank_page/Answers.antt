use Rattle.std.proofs.Common.{refl, sym}
use Rattle.fbc_kinds.proofs.Heads.{zeros-is_zeros}
use Rattle.fbc_spelling.proofs.shown.blank_page.Goals as goal

pub returns-clause-found : goal.returns-clause-found
returns-clause-found c = (refl, zeros-is_zeros _ (sym c.if-not-is_zeros.ensures))
