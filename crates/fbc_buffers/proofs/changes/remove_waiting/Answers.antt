use Rattle.std.proofs.Common.{not, rules}
use Rattle.std.proofs.lemmas.Fn.{filter_same}
use Rattle.fbc_buffers.specs.Holding.{is_waiting}
use Rattle.fbc_buffers.proofs.changes.remove_waiting.Goals as goal

pub returns-clause-items : goal.returns-clause-items
returns-clause-items c =
    filter_same _ (λ b. not (is_waiting b)) _ (λ x b f' h. search rules) _ _ c.retain.ensures.filtered
