use Rattle.fbc_console.proofs.Fits.{marks_beyond, IsInventory-filled_from}
use Rattle.fbc_console.proofs.store.image_of_taken.Goals as goal

pub set-requires : goal.set-requires
set-requires c = marks_beyond c.args.inventory c.requires

pub image_of_inventory-requires : goal.image_of_inventory-requires
image_of_inventory-requires c = IsInventory-filled_from c.args.inventory c.set.new.self c.requires c.set.ensures
