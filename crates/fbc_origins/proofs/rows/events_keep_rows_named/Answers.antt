use Rattle.fbc_origins.proofs.RowsEvents.{rows-stand-next}
use Rattle.fbc_origins.proofs.rows.events_keep_rows_named.Goals as goal

pub returns : goal.returns
returns c = λ shape file before moment legal order stand upheld. rows-stand-next shape file before order stand moment legal
