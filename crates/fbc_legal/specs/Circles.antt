-- Who waits for whom: for what another has, and for a page that another has pinned.
use Rattle.std.specs.Prelude.{◌≡◌, ℕ, Bool, [], ◌∷◌, true, IsSomeAnd}
use Rattle.fbc_levels.specs.declared.levels.Level.{Level}
use Rattle.fbc_levels.specs.declared.resources.Resource.{Resource}
use Rattle.fbc_levels.specs.declared.resources.Series.TheVariants.{Page}
use Rattle.fbc_levels.specs.LockState.{wait_of}
use Rattle.fbc_levels.specs.Waits.{IsHeldBy, WaitsFor}
use Rattle.fbc_lock_table.specs.declared.answers.Asked.TheVariants.{Granted}
use Rattle.fbc_lock_table.specs.Answers.{answer_to_ask}
use Rattle.fbc_world.specs.declared.events.Act.TheVariants.{Ask}
use Rattle.fbc_world.specs.History.{History, Moment}
use Rattle.fbc_world.specs.Locks.{locks_of}
use Rattle.fbc_world.specs.World.{World}

-- The one owner waits for a page in a level that conflicts with what the other, living one is granted on it, and the other
-- has the page pinned.
abbrev pub IsHeldOverPage : World → ℕ → ℕ → Type 0
IsHeldOverPage w owner other = IsHeldBy w.locks (λ holder page. w.is_pinned holder page ≡ true) owner other

-- The one owner waits for what the other, living one is granted in a conflicting level. A wait for a page counts only where the other
-- has the page pinned; a wait for a number or a relation counts always.
abbrev pub IsHeldUpBy : World → ℕ → ℕ → Type 0
IsHeldUpBy w owner other =
    WaitsFor w.locks owner other × IsSomeAnd (wait_of w.locks owner) (λ wait. wait.resource.series ≡ Page → w.is_pinned other wait.resource.key ≡ true)

-- The moment is the owner's ask for the resource, in whose way nobody stood: its grant comes next.
pub record IsFreeAsk (before : History) (owner : ℕ) (resource : Resource) (moment : Moment) : Type 0 where
  pub level : Level
  pub wait : Bool
  pub word : ℕ
  pub actor : moment.event.actor ≡ owner
  pub act : moment.event.act ≡ Ask resource level wait word
  pub free : answer_to_ask (locks_of before) owner resource level wait ≡ Granted

-- That was the last moment.
abbrev pub HasJustAsked : History → ℕ → Resource → Type 0
HasJustAsked [] owner resource = ⊥
HasJustAsked (last ∷ before) owner resource = IsFreeAsk before owner resource last
