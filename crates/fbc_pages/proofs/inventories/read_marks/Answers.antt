use Rattle.std.proofs.Common.{◌+◌, length, refl, ap, ◌∙◌, arith, length-append}
use Rattle.std.specs.Prelude.{slice_index}
use Rattle.fbc_pages.specs.Parts.{marks_of}
use Rattle.fbc_pages.proofs.Reading.{marks_more}
use Rattle.fbc_pages.proofs.inventories.read_marks.Goals as goal

pub loop-k-preserved : goal.loop-k-preserved
loop-k-preserved c =
    let added = c.in_ok-push_marks.ensures in
    let old = c.loop-k.taken.items in
    let bytes = c.args.bytes.now in
    record {
      count = ap length added ∙ omega (arith, length-append old (marks_of (slice_index bytes (16 + c.loop-k.k))), c.loop-k.invariant.count);
      marks = rw added (marks_more bytes old c.loop-k.k (slice_index bytes (16 + c.loop-k.k)) c.loop-k.invariant.count refl (omega (arith, c.type_inv.bytes (16 + c.loop-k.k))) c.loop-k.invariant.marks);
    }
