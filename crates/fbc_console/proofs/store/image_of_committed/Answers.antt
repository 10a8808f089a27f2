use Rattle.fbc_console.proofs.Fits.{states_beyond, IsTip-committed_from}
use Rattle.fbc_console.proofs.store.image_of_committed.Goals as goal

pub set-requires : goal.set-requires
set-requires c = states_beyond c.args.tip c.requires

pub image_of_tip-requires : goal.image_of_tip-requires
image_of_tip-requires c = IsTip-committed_from c.args.tip c.set.new.self c.requires c.set.ensures
