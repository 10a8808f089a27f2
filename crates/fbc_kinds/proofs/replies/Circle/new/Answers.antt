use Rattle.fbc_kinds.proofs.replies.Circle.new.Goals as goal
use Rattle.fbc_kinds.proofs.Zeros.{IsPadded-written}

pub invariant_of-result : goal.invariant_of-result
invariant_of-result c = rw c.copy_from_slice.ensures.after (IsPadded-written 8 c.args.owners.now c.requires)
