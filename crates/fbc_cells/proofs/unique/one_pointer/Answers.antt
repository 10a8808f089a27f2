use Rattle.fbc_cells.proofs.OnePage.{one_pointer_page}
use Rattle.fbc_cells.proofs.OneSpelling.{one_pointer_spelling}
use Rattle.fbc_cells.proofs.Unbroken.{unbroken_pointer}
use Rattle.fbc_cells.proofs.unique.one_pointer.Goals as goal

pub returns : goal.returns
returns c = record { spelling = one_pointer_spelling; page = one_pointer_page; unbroken = unbroken_pointer }
