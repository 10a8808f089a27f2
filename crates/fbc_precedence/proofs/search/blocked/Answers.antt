-- A pair names a page before it exactly where some page stands before it.
use Rattle.fbc_precedence.proofs.Keeping.{blocked-tells}
use Rattle.fbc_precedence.proofs.search.blocked.Goals as goal

pub returns : goal.returns
returns c = blocked-tells c.args.pairs.now c.args.page c.is_blocked.result c.is_blocked.ensures
