use Rattle.fbc_runs.proofs.RowReads.{edited_reads}
use Rattle.fbc_runs.proofs.reading.edits_keep_reading.Goals as goal

pub returns : goal.returns
returns c a after b reads means same first second lacks = edited_reads a after b reads means same second lacks
