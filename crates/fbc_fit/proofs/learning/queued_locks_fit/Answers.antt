use Rattle.std.proofs.Common.{◌≡◌, None, refl, sym, subst}
use Rattle.fbc_levels.specs.LockState.{LockState}
use Rattle.fbc_lock_table.specs.declared.answers.Asked.TheVariants.{Queued}
use Rattle.fbc_lock_table.specs.Answers.{answer_to_ask}
use Rattle.fbc_lock_table.specs.Effects.{after_ask}
use Rattle.fbc_owner_queues.specs.Circles.{circle_from}
use Rattle.fbc_owner_queues.proofs.Named.{page_asked-closes_none}
use Rattle.fbc_levels.specs.Resources.{page_resource}
use Rattle.fbc_world.specs.Locks.{locks_of}
use Rattle.fbc_world.specs.World.{World, world_of}
use Rattle.fbc_world.proofs.WorldLaws.{IsReplayed-world}
use Rattle.fbc_fit.proofs.AskedPages.{asked-queued}
use Rattle.fbc_fit.proofs.GrantedPages.{fits-asked}
use Rattle.fbc_fit.proofs.learning.queued_locks_fit.Goals as goal

pub returns-clause-uncircled : goal.returns-clause-uncircled
returns-clause-uncircled _ = λ shape file history owner c page level wait first word answer circle due fits.
    let w : World = world_of shape file history in
    let is = sym (IsReplayed-world shape file history).locks_is in
    let answer' = subst (λ (s : LockState). answer_to_ask s owner (page_resource page) level wait ≡ Queued) is answer in
    let circle' = subst (λ (s : LockState). circle_from (after_ask s owner (page_resource page) level word Queued) owner ≡ None) is circle in
    rw due (fits-asked shape w owner page level wait word first c due fits (asked-queued w.locks owner (page_resource page) level word wait answer' circle'))

pub returns-clause-free : goal.returns-clause-free
returns-clause-free c = λ shape file history owner cache page level wait first word answer free.
    returns-clause-uncircled c shape file history owner cache page level wait first word answer (page_asked-closes_none owner (page_resource page) level refl (locks_of history) word free)
