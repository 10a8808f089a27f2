use Rattle.std.proofs.Common.{subst, sym}
use Rattle.fbc_levels.specs.LockState.{LockState}
use Rattle.fbc_lock_table.specs.declared.answers.Asked.TheVariants.{Queued}
use Rattle.fbc_lock_table.specs.Answers.{answer_to_ask}
use Rattle.fbc_lock_table.specs.Effects.{after_ask}
use Rattle.fbc_world.specs.Locks.{locks_of}
use Rattle.fbc_world.proofs.Apart.{apart-history, apart_queued}
use Rattle.fbc_fit.specs.KnownLocks.{KnowsLock, asked_lock, lowered_lock}
use Rattle.fbc_fit.proofs.LocksKnown.{knows-asked_elsewhere}
use Rattle.fbc_fit.proofs.LocksWithdrawn.{circled-asks, knows-circled, knows-unwithdrawn}
use Rattle.fbc_fit.proofs.OtherActs.{refused-left}
use Rattle.fbc_fit.proofs.known.refused_asks_leave_known_locks.Goals as goal

pub returns-clause-refused : goal.returns-clause-refused
returns-clause-refused _ = λ locks owner on resource level wait word known refused knows.
    subst (λ (s : LockState). KnowsLock s owner resource known) (sym (refused-left locks owner on level word (answer_to_ask locks owner on level wait) refused)) knows

pub returns-clause-own : goal.returns-clause-own
returns-clause-own _ = λ history owner on level wait word known is free knows.
    subst (λ (s : LockState). KnowsLock s owner on (lowered_lock (asked_lock known level).level)) (sym (circled-asks (locks_of history) owner on level wait word is.0 is.1 is.2))
    (knows-circled (locks_of history) owner on level word (apart-history history) known free knows)

pub returns-clause-others : goal.returns-clause-others
returns-clause-others _ = λ history owner on resource level wait word known is other idle knows.
    subst (λ (s : LockState). KnowsLock s owner resource known) (sym (circled-asks (locks_of history) owner on level wait word is.0 is.1 is.2))
    (knows-unwithdrawn (after_ask (locks_of history) owner on level word Queued) owner (apart_queued (locks_of history) owner on level word (apart-history history)) resource known idle
    (knows-asked_elsewhere (locks_of history) owner on level word resource known other knows))
