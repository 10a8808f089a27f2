use Rattle.fbc_origins.proofs.RowsNext.{rows-first}
use Rattle.fbc_origins.proofs.rows.first_rows_are_named.Goals as goal

pub returns : goal.returns
returns c = λ shape file. rows-first shape file
