-- Marks of own numbers that are still to be written.
use Rattle.std.specs.Prelude.{◌≡◌, ℕ, ◌∷◌, false}
use Rattle.fbc_kinds.specs.declared.edits.Edit.TheVariants.{Mark}
use Rattle.fbc_kinds.specs.declared.pages.State.{State}
use Rattle.fbc_world.specs.declared.asks.Cause.{Cause}
use Rattle.fbc_world.specs.declared.events.Act.TheVariants.{Write}
use Rattle.fbc_world.specs.History.{History, Moment}
use Rattle.fbc_legal.specs.Traces.{IsEditOf}

-- At the moment the owner's draft of the page reaches the file.
pub record IsWriteOf (owner page : ℕ) (moment : Moment) : Type 0 where
  pub cause : Cause
  pub actor : moment.event.actor ≡ owner
  pub act : moment.event.act ≡ Write page cause false

-- The owner has marked the number in its draft of some page, and has not written that since.
pub data IsUnwrittenOn (owner number page : ℕ) : History → Type 0 where
  marked : (before : History) (moment : Moment) (state : State)
      → IsEditOf owner page (Mark number state) moment
      → IsUnwrittenOn owner number page (moment ∷ before)
  still : (before : History) (moment : Moment)
      → IsUnwrittenOn owner number page before
      → ¬ IsWriteOf owner page moment
      → IsUnwrittenOn owner number page (moment ∷ before)

abbrev pub IsUnwritten : History → ℕ → ℕ → Type 0
IsUnwritten past owner number = (page : ℕ) × IsUnwrittenOn owner number page past
