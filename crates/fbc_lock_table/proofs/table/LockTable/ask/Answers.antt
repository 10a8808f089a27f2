use Rattle.std.proofs.Common.{◌∙◌, ap, arith, refl, sym}
use Rattle.fbc_lock_table.specs.Effects.{with_granted, entered}
use Rattle.fbc_lock_table.specs.Waiters.{waiting_of}
use Rattle.fbc_lock_table.proofs.Lawful.{ask_granted_lawful, ask_queued_lawful}
use Rattle.fbc_lock_table.proofs.Waiters.{waiting-map_same, waiting-entered}
use Rattle.fbc_lock_table.proofs.table.LockTable.ask.Goals as goal

pub invariant_of-self : goal.invariant_of-self
invariant_of-self c =
    let requests = c.self.inside.requests.items in
    let waiters =
    waiting-map_same (with_granted c.args.owner c.args.resource c.args.level) (λ r. refl) (entered requests c.args.owner c.args.resource c.args.word)
    ∙ waiting-entered requests c.args.owner c.args.resource c.args.word in
    (rw (c.set_granted.ensures.items, c.enter.ensures.items) (ask_granted_lawful _ c.args.owner c.args.resource c.args.level c.args.word (rw (← c.self.view_is) at c.in-Granted.ensures.room) (rw (← c.self.view_is) at c.in-Granted.ensures.way) (rw (← c.self.view_is) at c.requires.lives) c.self.invariant.0), omega (arith, c.self.invariant.1), rw (c.set_granted.ensures.items, c.enter.ensures.items) (c.self.invariant.2 ∙ sym waiters))

pub invariant_of-self-in-Queued : goal.invariant_of-self-in-Queued
invariant_of-self-in-Queued c =
    (rw (c.set_waiting.ensures.items, c.enter-in-Queued.ensures.items) (ask_queued_lawful _ c.args.owner c.args.resource c.args.level c.args.word (rw (← c.self.view_is) at c.in-Queued.ensures.room) (rw (← c.self.view_is) at c.requires.waits_for_nothing) (rw (← c.self.view_is) at c.requires.lives) c.self.invariant.0), omega (arith, c.self.invariant.1), c.waiters_of-self-inside.ensures ∙ ap waiting_of c.deref.ensures.value)
