use Rattle.std.proofs.Common.{◌≡◌, ◌≤◌, take}
use Rattle.arrayvec.specs.ArrayVec.{array_vec_len}
use Rattle.fbc_owner_queues.specs.Search.{leaving}
use Rattle.fbc_owner_queues.proofs.search.others_of.Given as goal

abbrev pub invariant-loop-other : goal.invariant-loop-other
invariant-loop-other l = record {
  items : l.others.items ≡ leaving (take l.other-index l.owners) l.owner;
  room : array_vec_len l.others ≤ l.other-index;
}
