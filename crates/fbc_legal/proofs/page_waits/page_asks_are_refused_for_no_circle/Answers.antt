use Rattle.std.proofs.Common.{None, refl, subst, ◌≡◌}
use Rattle.fbc_levels.specs.LockState.{LockState, wait_of}
use Rattle.fbc_owner_queues.proofs.Named.{page_asked-closes_none}
use Rattle.fbc_levels.specs.Resources.{page_resource}
use Rattle.fbc_world.specs.Locks.{locks_of}
use Rattle.fbc_world.proofs.WorldLaws.{IsReplayed-world}
use Rattle.fbc_legal.proofs.page_waits.page_asks_are_refused_for_no_circle.Goals as goal

pub returns : goal.returns
returns c = λ shape file before owner page level wait landed word legal.
    page_asked-closes_none owner (page_resource page) level refl (locks_of before) word
    (subst (λ (s : LockState). wait_of s owner ≡ None) (IsReplayed-world shape file before).locks_is legal.1.guard.free)
