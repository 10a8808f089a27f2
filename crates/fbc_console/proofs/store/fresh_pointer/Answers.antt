use Rattle.fbc_console.proofs.Fits.{IsPointer-from}
use Rattle.fbc_console.proofs.store.fresh_pointer.Goals as goal

pub returns-clause-fits : goal.returns-clause-fits
returns-clause-fits c = IsPointer-from c.in_ok-empty_slots.field-0 c.in_ok-empty_slots.ensures
