use Rattle.fbc_kinds.proofs.InventoryLaws.{inventory-one_spelling, inventory-one_page}
use Rattle.fbc_kinds.proofs.InventoryRules.{inventory-unbroken}
use Rattle.fbc_kinds.proofs.Sizes.{has_content}
use Rattle.fbc_pages.proofs.laws.one_inventory.Goals as goal

pub returns : goal.returns
returns c = record {
  spelling = inventory-one_spelling;
  unbroken = λ size page bytes is spelled. inventory-unbroken size page bytes (has_content size is) spelled;
  page = inventory-one_page;
}
