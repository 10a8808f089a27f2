use Rattle.std.proofs.Common.{arith}
use Rattle.fbc_kinds.specs.TipSpelling.{states_byte}
use Rattle.fbc_pages.proofs.Writes.{head_stays, bytes_more}
use Rattle.fbc_pages.proofs.tips.write_states.Goals as goal

pub loop-k-preserved : goal.loop-k-preserved
loop-k-preserved c = record {
  head = head_stays c.args.out.now c.loop-k.out c.loop-k.k _ c.loop-k.invariant.head;
  states = bytes_more (states_byte c.args.states.now) c.loop-k.out c.loop-k.k _ (omega arith) c.states_byte.ensures c.loop-k.invariant.states;
}
