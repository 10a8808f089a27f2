use Rattle.std.proofs.Common.{Bool, List, ap, ◌∙◌, arith}
use Rattle.fbc_kinds.specs.InventorySpelling.{marks_byte}
use Rattle.fbc_kinds.proofs.Heads.{HasHead-kept}
use Rattle.fbc_pages.proofs.inventories.encode_inventory.Goals as goal

pub returns : goal.returns
returns c = record {
  fits = c.requires.page;
  size_is = omega arith;
  head = HasHead-kept _ _ _ _ _ _ c.write_marks.ensures.head c.write_head.ensures.head;
  marks = λ k below. c.write_marks.ensures.marks k (omega arith) ∙ ap (λ (taken : List Bool). marks_byte taken k) c.items.ensures;
}
