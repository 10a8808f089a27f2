use Rattle.std.proofs.Common.{arith}
use Rattle.fbc_kinds.specs.InventorySpelling.{marks_byte}
use Rattle.fbc_pages.proofs.Writes.{head_stays, bytes_more}
use Rattle.fbc_pages.proofs.inventories.write_marks.Goals as goal

pub loop-k-preserved : goal.loop-k-preserved
loop-k-preserved c = record {
  head = head_stays c.args.out.now c.loop-k.out c.loop-k.k _ c.loop-k.invariant.head;
  marks = bytes_more (marks_byte c.args.taken.now) c.loop-k.out c.loop-k.k _ (omega arith) c.marks_byte.ensures c.loop-k.invariant.marks;
}
