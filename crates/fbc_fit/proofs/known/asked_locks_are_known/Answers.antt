use Rattle.std.proofs.Common.{Some, subst, sym}
use Rattle.fbc_levels.specs.LockState.{LockState}
use Rattle.fbc_fit.specs.KnownLocks.{KnowsLock, asked_lock}
use Rattle.fbc_fit.proofs.LocksKnown.{entered-asks, knows-asked, knows-asked_elsewhere}
use Rattle.fbc_fit.proofs.known.asked_locks_are_known.Goals as goal

pub returns-clause-own : goal.returns-clause-own
returns-clause-own _ = λ locks owner on level wait word known is free knows.
    subst (λ (s : LockState). KnowsLock s owner on (Some (asked_lock known level))) (sym (entered-asks locks owner on level wait word is)) (knows-asked locks owner on level word known free knows)

pub returns-clause-others : goal.returns-clause-others
returns-clause-others _ = λ locks owner on resource level wait word known is other knows.
    subst (λ (s : LockState). KnowsLock s owner resource known) (sym (entered-asks locks owner on level wait word is)) (knows-asked_elsewhere locks owner on level word resource known other knows)
