-- Why a page may be written, and why a page's lock may be lowered, as far as histories alone can say it.
use Rattle.std.specs.Prelude.{◌≡◌, ◌⊎◌, ℕ, ◌∷◌, Option, Some, None, true}
use Rattle.fbc_blocking.specs.Callbacks.{IsNextCallback}
use Rattle.fbc_kinds.specs.declared.pages.State.TheVariants.{Dead}
use Rattle.fbc_kinds.specs.View.{state_in}
use Rattle.fbc_levels.specs.declared.levels.Level.{Level}
use Rattle.fbc_levels.specs.declared.levels.Level.TheVariants.{Free}
use Rattle.fbc_levels.specs.declared.resources.Callback.{Callback}
use Rattle.fbc_levels.specs.LockState.{request_of}
use Rattle.fbc_world.specs.declared.asks.Cause.{Cause}
use Rattle.fbc_world.specs.declared.asks.Cause.TheVariants as cause
use Rattle.fbc_world.specs.declared.events.Act.TheVariants.{Poll}
use Rattle.fbc_world.specs.History.{History, Moment}
use Rattle.fbc_world.specs.Holdings.{holdings_of}
use Rattle.fbc_levels.specs.Resources.{page_resource}
use Rattle.fbc_world.specs.Locks.{locks_of}
use Rattle.fbc_world.specs.PageCell.{page_for}
use Rattle.fbc_legal.specs.Scene.{Scene, HasExclusive, IsBefore}

-- The owner's last poll answered this callback.
pub data IsPolled (owner : ℕ) (callback : Callback) : History → Type 0 where
  answered : (before : History) (moment : Moment) (above : Option ℕ)
      → moment.event.actor ≡ owner
      → moment.event.act ≡ Poll above
      → IsNextCallback (locks_of before) owner above callback
      → IsPolled owner callback (moment ∷ before)
  still : (before : History) (moment : Moment)
      → IsPolled owner callback before
      → ((above : Option ℕ) → moment.event.actor ≡ owner → moment.event.act ≡ Poll above → ⊥)
      → IsPolled owner callback (moment ∷ before)

-- The owner's last poll called the page back for this asker.
abbrev pub IsCalledFor : Scene → ℕ → ℕ → ℕ → Type 0
IsCalledFor at owner page asker = (callback : Callback) × IsPolled owner callback at.past × (callback.page ≡ page) × (callback.asker ≡ asker)

-- The owner's cache is full of pages that it holds, and this page is not among them.
pub record IsFullFor (at : Scene) (owner page : ℕ) : Type 0 where
  pub full : (holdings_of at.world owner).count ≡ (holdings_of at.world owner).buffers
  pub absent : request_of at.world.locks owner (page_resource page) ≡ None

-- The owner's draft has a mark of dead that the file has not.
pub record HasDeadMark (at : Scene) (owner page : ℕ) : Type 0 where
  pub place : ℕ
  pub drafted : state_in (page_for owner (at.world.kept page) (at.world.draft page)) place ≡ Some Dead
  pub kept : ¬ (state_in (at.world.kept page) place ≡ Some Dead)

-- A page, or one before it, is written for this cause. Which statement is answered is no matter of the history.
abbrev pub IsCauseFor : Scene → ℕ → ℕ → Cause → Type 0
IsCauseFor at owner page cause.Commit = Unit {0}
IsCauseFor at owner page (cause.CallbackOf asker) = IsCalledFor at owner page asker
IsCauseFor at owner page (cause.Cycle high) = (at.world.is_pinned owner page ≡ true) × HasExclusive at owner high × IsBefore at page high
IsCauseFor at owner page (cause.Evict wanted) = IsFullFor at owner wanted
IsCauseFor at owner page cause.Mark = HasDeadMark at owner page
IsCauseFor at owner page cause.Detach = Unit {0}

-- The write meets its cause: for the page itself, or for one that it stands before.
abbrev pub MeetsCause : Scene → ℕ → ℕ → Cause → Type 0
MeetsCause at owner page reason =
    IsCauseFor at owner page reason ⊎ ((low : ℕ) × IsBefore at page low × IsCauseFor at owner low reason)

-- A page's lock is lowered to none, or to what the owner's last poll gave for that page.
abbrev pub MeetsLowering : Scene → ℕ → ℕ → Level → Type 0
MeetsLowering at owner page level =
    (level ≡ Free) ⊎ ((callback : Callback) × IsPolled owner callback at.past × (callback.page ≡ page) × (callback.keep ≡ level))
