use Rattle.fbc_kinds.proofs.EditsKept.{edits_keep_limits}
use Rattle.fbc_apply.proofs.applying.edits_keep_limits.Goals as goal

pub returns : goal.returns
returns c = edits_keep_limits
