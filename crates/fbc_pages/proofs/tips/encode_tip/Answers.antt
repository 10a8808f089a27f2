use Rattle.std.proofs.Common.{List, ap, ◌∙◌, arith}
use Rattle.fbc_kinds.specs.declared.pages.State.{State}
use Rattle.fbc_kinds.specs.TipSpelling.{states_byte}
use Rattle.fbc_kinds.proofs.Heads.{HasHead-kept}
use Rattle.fbc_pages.proofs.tips.encode_tip.Goals as goal

pub returns : goal.returns
returns c = record {
  fits = c.requires.page;
  size_is = omega arith;
  head = HasHead-kept _ _ _ _ _ _ c.write_states.ensures.head c.write_head.ensures.head;
  states = λ k below. c.write_states.ensures.states k (omega arith) ∙ ap (λ (states : List State). states_byte states k) c.items.ensures;
}
