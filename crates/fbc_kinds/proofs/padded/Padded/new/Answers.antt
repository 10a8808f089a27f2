use Rattle.fbc_kinds.proofs.padded.Padded.new.Goals as goal
use Rattle.fbc_kinds.proofs.Zeros.{IsPadded-written}

pub invariant_of-result : goal.invariant_of-result
invariant_of-result g c = rw c.copy_from_slice.ensures.after (IsPadded-written g.row.WIDTH c.args.text.now c.requires.width)
