use Rattle.std.proofs.Common.{not, rules}
use Rattle.std.proofs.lemmas.Fn.{filter_same}
use Rattle.fbc_lock_table.specs.Effects.{is_bare_wait_of}
use Rattle.fbc_lock_table.proofs.requests.remove_bare_wait.Goals as goal

pub returns-clause-items : goal.returns-clause-items
returns-clause-items c =
    filter_same _ (λ r. not (is_bare_wait_of c.args.owner r)) _ (λ x b f' h. search rules) _ _ c.retain.ensures.filtered
