use Rattle.fbc_console.proofs.Fits.{slots_beyond, IsPointer-filled_from}
use Rattle.fbc_console.proofs.store.image_of_named.Goals as goal

pub set-requires : goal.set-requires
set-requires c = slots_beyond c.args.pointer c.requires

pub image_of_pointer-requires : goal.image_of_pointer-requires
image_of_pointer-requires c = IsPointer-filled_from c.args.pointer c.set.new.self c.requires c.set.ensures
