use Rattle.std.proofs.Common.{◌∙◌, ap, not, arith}
use Rattle.std.specs.List.{filter}
use Rattle.fbc_lock_table.specs.Effects.{is_bare_wait_of, without_wait}
use Rattle.fbc_lock_table.specs.Waiters.{waiting_of}
use Rattle.fbc_lock_table.proofs.Lawful.{filter_lawful, cleared_lawful}
use Rattle.fbc_lock_table.proofs.Waiters.{waiting-filter, waiting-map_fewer, one-cleared}
use Rattle.fbc_lock_table.proofs.table.LockTable.withdraw.Goals as goal

pub invariant_of-self : goal.invariant_of-self
invariant_of-self c =
    let rest = filter_lawful _ (λ r. not (is_bare_wait_of c.args.owner r)) c.self.invariant.0 in
    (rw (c.clear_waiting.ensures.items, c.remove_bare_wait.ensures.items) (cleared_lawful _ c.args.owner rest), omega (arith, c.self.invariant.1), c.waiters_left-self-inside.ensures ∙ ap waiting_of c.deref.ensures.value)

pub waiters_left-self-inside-requires-clause-fewer : goal.waiters_left-self-inside-requires-clause-fewer
waiters_left-self-inside-requires-clause-fewer c =
    let requests = c.self.inside.requests.items in
    let some = waiting-filter (λ r. not (is_bare_wait_of c.args.owner r)) requests in
    let rest = waiting-map_fewer (without_wait c.args.owner) (one-cleared c.args.owner) (filter (λ r. not (is_bare_wait_of c.args.owner r)) requests) in
    rw (c.deref.ensures.value, c.clear_waiting.ensures.items, c.remove_bare_wait.ensures.items, c.self.invariant.2) (omega (arith, some, rest))
