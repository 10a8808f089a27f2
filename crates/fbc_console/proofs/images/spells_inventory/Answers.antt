use Rattle.fbc_kinds.specs.InventorySpelling.{SpellsInventory}
use Rattle.fbc_console.specs.FreshFile.{fresh_inventory}
use Rattle.fbc_console.proofs.CommitLemmas.{is_fresh}
use Rattle.fbc_console.proofs.images.spells_inventory.Goals as goal

pub returns : goal.returns
returns c = is_fresh (SpellsInventory 1024) c.in_ok-fresh_inventory.field-0 fresh_inventory c.args.bytes.now c.image_of_inventory-image.result.bytes c.is_same.result c.in_ok-fresh_inventory.ensures.page c.image_of_inventory-image.ensures.bytes c.is_same.ensures (λ a b x y. c.one_inventory.ensures.spelling 1024 fresh_inventory a b x y)
