use Rattle.fbc_console.proofs.Fits.{IsTip-from}
use Rattle.fbc_console.proofs.store.fresh_tip.Goals as goal

pub returns-clause-fits : goal.returns-clause-fits
returns-clause-fits c = IsTip-from c.in_ok-active_states.field-0 c.in_ok-active_states.ensures
