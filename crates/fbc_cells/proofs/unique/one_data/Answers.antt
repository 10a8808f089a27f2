use Rattle.fbc_cells.proofs.OnePage.{one_data_page}
use Rattle.fbc_cells.proofs.OneSpelling.{one_data_spelling}
use Rattle.fbc_cells.proofs.Unbroken.{unbroken_data}
use Rattle.fbc_cells.proofs.unique.one_data.Goals as goal

pub returns : goal.returns
returns c = record { spelling = one_data_spelling; page = one_data_page; unbroken = unbroken_data }
