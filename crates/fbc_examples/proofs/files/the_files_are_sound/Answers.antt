use Rattle.fbc_examples.proofs.Starts.{start_empty, start_new, start_row, start_spread, start_stale, start_worn}
use Rattle.fbc_examples.proofs.files.the_files_are_sound.Goals as goal

pub returns-clause-new : goal.returns-clause-new
returns-clause-new c = start_new

pub returns-clause-empty : goal.returns-clause-empty
returns-clause-empty c = start_empty

pub returns-clause-row : goal.returns-clause-row
returns-clause-row c = start_row

pub returns-clause-worn : goal.returns-clause-worn
returns-clause-worn c = start_worn

pub returns-clause-spread : goal.returns-clause-spread
returns-clause-spread c = start_spread

pub returns-clause-stale : goal.returns-clause-stale
returns-clause-stale c = start_stale
