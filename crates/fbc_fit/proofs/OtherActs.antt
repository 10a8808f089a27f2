-- After what its owner does of no page, or what is refused, a cache fits.
use Rattle.std.proofs.Common.{◌≡◌, ◌⊎◌, inl, inr, ℕ, Bool, false, None, refl, subst, sym, arith}
use Rattle.std.proofs.lemmas.Bool.Decides.{nat_tests}
use Rattle.fbc_kinds.specs.declared.shapes.Shape.{Shape}
use Rattle.fbc_levels.specs.declared.levels.Level.{Level}
use Rattle.fbc_levels.specs.declared.resources.Resource.{Resource}
use Rattle.fbc_levels.specs.LockState.{LockState, wait_of}
use Rattle.fbc_levels.specs.Resources.{is_same_resource, page_resource}
use Rattle.fbc_lock_table.specs.declared.answers.Asked.{Asked}
use Rattle.fbc_lock_table.specs.declared.answers.Asked.TheVariants as answers
use Rattle.fbc_lock_table.specs.Answers.{answer_to_ask}
use Rattle.fbc_world.specs.declared.events.Act.{Act}
use Rattle.fbc_world.specs.declared.events.Act.TheVariants as act
use Rattle.fbc_world.specs.Locks.{asked}
use Rattle.fbc_world.specs.World.{World, acted}
use Rattle.fbc_cache.specs.Cache.{CacheState}
use Rattle.fbc_cache.specs.Wants.{is_page_series}
use Rattle.fbc_fit.specs.Fit.{Fits, IsRefused, LeavesPages}
use Rattle.fbc_fit.proofs.OtherRequests.{same-asked, same-granted, same-lowered, same-reaped, same-unwaiting}
use Rattle.fbc_fit.proofs.PageRequests.{same-self}
use Rattle.fbc_fit.proofs.SamePages.{HasSamePages, HasSameRequests, fits-same}

-- What is no page is not this one.
no_page : (resource : Resource) (page : ℕ) → is_page_series resource ≡ false → is_same_resource resource (page_resource page) ≡ false
no_page resource page other = grind (arith, nat_tests, other)

-- A refused ask enters nothing.
pub refused-left : (s : LockState) (owner : ℕ) (resource : Resource) (level : Level) (word : ℕ) (answer : Asked) → IsRefused answer → asked s owner resource level word answer ≡ s
refused-left s owner resource level word (answers.Busy holder held) refused = refl
refused-left s owner resource level word (answers.Room used) refused = refl
refused-left s owner resource level word _ refused = absurd refused

module _ (shape : Shape) (w : World) (owner : ℕ) (landed : Bool) where
  asked-same : (resource : Resource) (level : Level) (wait : Bool) (word : ℕ)
      → ((is_page_series resource ≡ false) × (wait_of w.locks owner ≡ None)) ⊎ IsRefused (answer_to_ask w.locks owner resource level wait)
      → HasSameRequests owner w.locks.requests (asked w.locks owner resource level word (answer_to_ask w.locks owner resource level wait)).requests
  asked-same resource level wait word (inl other) = same-asked owner resource other.0 w.locks other.1 level word (answer_to_ask w.locks owner resource level wait)
  asked-same resource level wait word (inr refused) =
      subst (λ (s : LockState). HasSameRequests owner w.locks.requests s.requests) (sym (refused-left w.locks owner resource level word (answer_to_ask w.locks owner resource level wait) refused)) (same-self owner w.locks.requests)

  same-world : HasSamePages owner w w
  same-world = record { granted = λ page. refl; requests = same-self owner w.locks.requests; copy = λ page. refl; draft = λ page. refl; pin = λ page. refl; pair = λ high low. refl; room = refl }

  pub same-acted : (done : Act) → LeavesPages w owner done → HasSamePages owner w (acted shape w owner done landed)
  same-acted (act.Ask resource level wait word) leaves =
      record { granted = λ page. refl; requests = asked-same resource level wait word leaves; copy = λ page. refl; draft = λ page. refl; pin = λ page. refl; pair = λ high low. refl; room = refl }
  same-acted (act.Grant resource level) other =
      record { granted = λ page. grind (arith, no_page resource page other); requests = same-granted owner resource other w.locks level; copy = λ page. refl; draft = λ page. refl; pin = λ page. refl; pair = λ high low. refl; room = refl }
  same-acted (act.Lower resource level) other =
      record { granted = λ page. grind (arith, no_page resource page other); requests = same-lowered owner resource other w.locks level; copy = λ page. grind (arith, no_page resource page other); draft = λ page. refl; pin = λ page. refl; pair = λ high low. refl; room = refl }
  same-acted (act.Reap dead by) apart =
      record { granted = λ page. grind (arith, nat_tests, apart); requests = same-reaped w.locks owner dead apart; copy = λ page. refl; draft = λ page. refl; pin = λ page. refl; pair = λ high low. refl; room = refl }
  same-acted act.Withdraw free =
      record { granted = λ page. refl; requests = same-unwaiting w.locks owner free; copy = λ page. refl; draft = λ page. refl; pin = λ page. refl; pair = λ high low. refl; room = refl }
  same-acted act.Look leaves = same-world
  same-acted (act.Poll above) leaves = same-world
  same-acted act.Least leaves = same-world
  same-acted (act.Note reply) leaves = same-world
  same-acted _ leaves = absurd leaves

  pub fits-acted : (c : CacheState) (done : Act) → LeavesPages w owner done → Fits shape w owner c → Fits shape (acted shape w owner done landed) owner c
  fits-acted c done leaves = fits-same shape owner w (acted shape w owner done landed) c (same-acted done leaves)
