use Rattle.fbc_origins.proofs.RowsEvents.{rows-stand-first}
use Rattle.fbc_origins.proofs.rows.first_rows_stand.Goals as goal

pub returns : goal.returns
returns c = λ shape file. rows-stand-first shape file
