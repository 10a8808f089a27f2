-- A legal failed write is a legal death, behind a legal write if it landed.
use Rattle.std.proofs.Common.{◌∷◌, [], ℕ, Bool, true, false}
use Rattle.fbc_kinds.specs.declared.shapes.Shape.{Shape}
use Rattle.fbc_kinds.specs.View.{View}
use Rattle.fbc_levels.specs.declared.levels.Level.{Level}
use Rattle.fbc_levels.specs.declared.resources.Resource.{Resource}
use Rattle.fbc_world.specs.declared.asks.Cause.{Cause}
use Rattle.fbc_world.specs.declared.events.Act.{Act}
use Rattle.fbc_world.specs.declared.events.Act.TheVariants.{Ask, Die, Write}
use Rattle.fbc_world.specs.History.{History, Moment, happens}
use Rattle.fbc_legal.specs.Legal.{ComesNext, ComesNextAfter, IsGrantOf, IsLegal}

-- Another moment that is no grant may follow what this one may.
pub follows-also : (past : History) (moment other : Moment) → ComesNext past moment → ((owner : ℕ) (resource : Resource) (level : Level) → ¬ IsGrantOf owner resource level moment) → ComesNext past other
follows-also [] moment other is never = tt
follows-also (last ∷ before) moment other is never = go last.event.act is where
  go : (act : Act) → ComesNextAfter before last.event.actor act moment → ComesNextAfter before last.event.actor act other
  go (Ask resource level wait word) was = λ free. absurd (never last.event.actor resource level (was free))
  go _ was = tt

module _ (shape : Shape) (file : View) (before : History) (owner page : ℕ) (reason : Cause) where
  no_grant : (landed : Bool) (actor : ℕ) (resource : Resource) (level : Level) → ¬ IsGrantOf actor resource level (happens owner (Write page reason true) landed)
  no_grant landed actor resource level grant = absurd (let is = grant.act in cc)

  -- It did not land.
  pub lost-dies : IsLegal shape file (happens owner (Write page reason true) false ∷ before) → IsLegal shape file (happens owner Die false ∷ before)
  lost-dies legal =
      (legal.0, record { alive = legal.1.alive; follows = follows-also before (happens owner (Write page reason true) false) (happens owner Die false) legal.1.follows (no_grant false); guard = tt })

  -- It landed.
  pub landed-writes : IsLegal shape file (happens owner (Write page reason true) true ∷ before) → IsLegal shape file (happens owner (Write page reason false) true ∷ before)
  landed-writes legal =
      (legal.0, record { alive = legal.1.alive; follows = follows-also before (happens owner (Write page reason true) true) (happens owner (Write page reason false) true) legal.1.follows (no_grant true); guard = legal.1.guard })

  pub landed-dies : IsLegal shape file (happens owner (Write page reason true) true ∷ before) → IsLegal shape file (happens owner Die true ∷ happens owner (Write page reason false) true ∷ before)
  landed-dies legal = (landed-writes legal, record { alive = legal.1.alive; follows = tt; guard = tt })
