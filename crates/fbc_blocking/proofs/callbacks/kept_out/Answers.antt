use Rattle.std.proofs.Common.{◌∙◌, ap}
use Rattle.std.specs.List.{find}
use Rattle.fbc_levels.specs.LockState.{granted_of}
use Rattle.fbc_blocking.specs.Callbacks.{is_kept_out}
use Rattle.fbc_blocking.proofs.callbacks.kept_out.Goals as goal

pub returns : goal.returns
returns c =
    c.first_kept_out.ensures
    ∙ ap (λ held. find (is_kept_out c.args.owner c.args.page held) c.args.table.now.requests) (c.granted-held.ensures ∙ ap (granted_of c.args.table.now c.args.owner) c.page_of.ensures)
