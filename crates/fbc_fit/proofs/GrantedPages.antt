-- After a page is asked for, and where it is granted at once, its cache fits.
use Rattle.std.proofs.Common.{◌≡◌, ℕ, Bool, true, List, [], ◌∷◌, ◌++◌, Some, None, is_some, sym, subst}
use Rattle.fbc_kinds.specs.declared.shapes.Shape.{Shape}
use Rattle.fbc_levels.specs.declared.levels.Level.{Level}
use Rattle.fbc_levels.specs.LockState.{LockState, request_of, wait_of}
use Rattle.fbc_lock_table.specs.Answers.{answer_to_ask}
use Rattle.fbc_world.specs.declared.events.Act.TheVariants as act
use Rattle.fbc_levels.specs.Resources.{page_resource}
use Rattle.fbc_world.specs.Locks.{granted_to, waiting_of}
use Rattle.fbc_world.specs.World.{World, acted}
use Rattle.fbc_buffers.specs.declared.buffers.Buffer.{Buffer}
use Rattle.fbc_buffers.specs.Holding.{granted_buffer, waiting_buffer}
use Rattle.fbc_cache.specs.Cache.{CacheState}
use Rattle.fbc_cache.specs.Wants.{is_lock_due}
use Rattle.fbc_fit.specs.Fit.{Fits}
use Rattle.fbc_fit.proofs.AskedPages.{asked-waits, granted-waits-not, learnt-last}
use Rattle.fbc_fit.proofs.DueLocks.{due-alone, due-new}
use Rattle.fbc_fit.proofs.LateGrants.{fits-granted, waits-asked}
use Rattle.fbc_fit.proofs.LearntGrants.{fits-learnt}
use Rattle.fbc_fit.proofs.QueuedPages.{fits-queued, queued, unasked}

module _ (shape : Shape) (w : World) (owner page : ℕ) (level : Level) (wait : Bool) (word : ℕ) (first : Bool) (c : CacheState) (due : is_lock_due c page level ≡ true) (fits : Fits shape w owner c) where
  abbrev new : LockState
  new = queued shape w owner page level word c (due-new c page level due) fits

  abbrev waiting : CacheState
  waiting = record c { held = c.held ++ waiting_buffer page level ∷ [] }

  abbrev after_asking : World
  after_asking = acted shape w owner (act.Ask (page_resource page) level wait word) first

  pub fits-asked : after_asking.locks ≡ new → Fits shape after_asking owner waiting
  fits-asked is = subst (λ (s : LockState). Fits shape (record w { locks = s }) owner waiting) (sym is) (fits-queued shape w owner page level word c (due-new c page level due) fits)

  module _ (second : Bool) (free : wait_of w.locks owner ≡ None) (wanted : waiting_of after_asking.locks owner (page_resource page) ≡ Some level) where
    abbrev after : World
    after = acted shape after_asking owner (act.Grant (page_resource page) level) second

    waits : after_asking.locks ≡ new
    waits = asked-waits w.locks owner (page_resource page) level word (unasked shape w owner page level word c (due-new c page level due) fits) (answer_to_ask w.locks owner (page_resource page) level wait) wanted

    there : is_some (request_of new owner (page_resource page)) ≡ true
    there = subst (λ (s : LockState). is_some (request_of s owner (page_resource page)) ≡ true) waits (waits-asked (request_of after_asking.locks owner (page_resource page)) level wanted)

    waits_not : wait_of after.locks owner ≡ None
    waits_not = subst (λ (s : LockState). wait_of (granted_to s owner (page_resource page) level) owner ≡ None) (sym waits) (granted-waits-not w.locks owner (page_resource page) level word free there)

    pub fits-granted_at_once : Fits shape after owner (record c { held = c.held ++ granted_buffer page level ∷ [] })
    fits-granted_at_once =
        subst (λ (held : List Buffer). Fits shape after owner (record c { held = held })) (learnt-last page level c.held (due-alone c page level due))
        (fits-learnt shape after owner waiting waits_not (fits-granted shape after_asking owner page level second waiting wanted (fits-asked waits)))
