use Rattle.std.proofs.Common.{◌≡◌, ◌^◌, ◌<◌, arith}
use Rattle.fbc_kinds.proofs.Numbers.{number_at-small_4}
use Rattle.fbc_kinds.proofs.InventoryRules.{SpellsInventory-read}
use Rattle.fbc_pages.proofs.inventories.decode_inventory.Goals as goal

pub returns-clause-page : goal.returns-clause-page
returns-clause-page c =
    let none : c.in_ok-head.head.relation ≡ 0 = c.in_ok-head.ensures.no_relation (omega arith) in
    let head = c.in_ok-head.ensures.head in
    let large : 16 < c.args.size = omega arith in
    let small = number_at-small_4 8 c.args.bytes.now (λ i. omega (arith, c.type_inv.bytes i)) (omega arith) in
    let sequence : c.in_ok-head.head.sequence < 2 ^ 32 = rw c.in_ok-head.ensures.sequence small in
    rw c.new.ensures (SpellsInventory-read c.args.size c.args.page c.in_ok-head.head.sequence c.in_ok-taken.taken.items c.args.bytes.now large c.requires.length (omega arith) sequence c.in_ok-head.ensures.sequence (rw none at head) c.in_ok-taken.ensures.count c.in_ok-taken.ensures.marks c.in_ok-check_marks.ensures)
