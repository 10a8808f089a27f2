use Rattle.std.proofs.Common.{not, rules}
use Rattle.std.proofs.lemmas.Fn.{filter_same}
use Rattle.fbc_levels.specs.LockState.{is_of}
use Rattle.fbc_lock_table.proofs.requests.remove.Goals as goal

pub returns-clause-items : goal.returns-clause-items
returns-clause-items c =
    filter_same _ (λ r. not (is_of c.args.owner c.args.resource r)) _ (λ x b f' h. search rules) _ _ c.retain.ensures.filtered
