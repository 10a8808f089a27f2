use Rattle.fbc_console.proofs.Fits.{IsInventory-from}
use Rattle.fbc_console.proofs.store.fresh_inventory.Goals as goal

pub returns-clause-fits : goal.returns-clause-fits
returns-clause-fits c = IsInventory-from c.in_ok-taken_first.field-0 c.in_ok-taken_first.ensures
