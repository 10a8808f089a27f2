use Rattle.std.proofs.Common.{◌≡◌, ◌+◌, ◌*◌, length, refl, ap, ◌∙◌, arith, length-append}
use Rattle.std.specs.Prelude.{slice_index}
use Rattle.fbc_pages.specs.Parts.{states_of}
use Rattle.fbc_pages.proofs.Reading.{states_more}
use Rattle.fbc_pages.proofs.tips.read_states.Goals as goal

pub loop-k-preserved : goal.loop-k-preserved
loop-k-preserved c =
    let added = c.in_ok-push_states.ensures in
    let old = c.loop-k.states.items in
    let bytes = c.args.bytes.now in
    record {
      count = ap length added ∙ omega (arith, length-append old (states_of (slice_index bytes (16 + c.loop-k.k))), c.loop-k.invariant.count);
      states = rw added (states_more bytes old c.loop-k.k (slice_index bytes (16 + c.loop-k.k)) c.loop-k.invariant.count refl (omega (arith, c.type_inv.bytes (16 + c.loop-k.k))) c.loop-k.invariant.states);
    }
