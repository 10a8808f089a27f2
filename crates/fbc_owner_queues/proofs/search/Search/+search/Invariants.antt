use Rattle.std.proofs.Common.{◌≡◌, ◌≤◌, ◌+◌, ◌*◌, ◌-◌, drop}
use Rattle.arrayvec.specs.ArrayVec.{array_vec_len}
use Rattle.fbc_levels.specs.Waits.{waits_for_number}
use Rattle.fbc_owner_queues.specs.Search.{tried, searched}
use Rattle.fbc_owner_queues.proofs.search.Search.+search.Given as goal

abbrev pub decreases-from : goal.decreases-from
decreases-from l = 3 * l.depth

abbrev pub decreases-step : goal.decreases-step
decreases-step l = 3 * l.depth + 2

abbrev pub decreases-enter : goal.decreases-enter
decreases-enter l = 3 * l.depth + 1

abbrev pub invariant-from-loop-next : goal.invariant-from-loop-next
invariant-from-loop-next l =
    let waits = waits_for_number l.self.table.now in
    let enter = searched waits l.self.living.now l.self.goal (l.depth - 1) in
    (tried (waits l.owner) l.self.goal enter (drop l.next-index l.next-items) l.free.items ≡ tried (waits l.owner) l.self.goal enter l.next-items l.initial.free.items)
    × (l.path.items ≡ l.initial.path.items)
    × (array_vec_len l.path + array_vec_len l.free ≤ array_vec_len l.initial.path + array_vec_len l.initial.free)
