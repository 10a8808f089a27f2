-- Which histories are legal.
use Rattle.std.specs.Prelude.{◌≡◌, ℕ, [], ◌∷◌, true}
use Rattle.fbc_kinds.specs.declared.shapes.Shape.{Shape}
use Rattle.fbc_kinds.specs.View.{View}
use Rattle.fbc_levels.specs.declared.levels.Level.{Level}
use Rattle.fbc_levels.specs.declared.resources.Resource.{Resource}
use Rattle.fbc_lock_table.specs.declared.answers.Asked.TheVariants.{Granted}
use Rattle.fbc_lock_table.specs.Answers.{answer_to_ask}
use Rattle.fbc_world.specs.declared.events.Act.{Act}
use Rattle.fbc_world.specs.declared.events.Act.TheVariants as act
use Rattle.fbc_world.specs.History.{History, Moment}
use Rattle.fbc_world.specs.Locks.{locks_of}
use Rattle.fbc_legal.specs.Guards.{Guard}
use Rattle.fbc_legal.specs.Scene.{Scene, scene_of}

-- The actor of an event is alive; but nobody is where the file is opened, and an owner is not yet where it comes.
abbrev pub MayAct : Scene → ℕ → Act → Type 0
MayAct at owner (act.Opened locks) = Unit {0}
MayAct at owner (act.Enter buffers name) = Unit {0}
MayAct at owner _ = at.world.is_alive owner ≡ true

-- The moment is the grant of this level to the owner.
pub record IsGrantOf (owner : ℕ) (resource : Resource) (level : Level) (moment : Moment) : Type 0 where
  pub actor : moment.event.actor ≡ owner
  pub act : moment.event.act ≡ act.Grant resource level

-- An ask in whose way nobody stands is granted at once.
abbrev pub ComesNextAfter : History → ℕ → Act → Moment → Type 0
ComesNextAfter before owner (act.Ask resource level wait word) moment =
    answer_to_ask (locks_of before) owner resource level wait ≡ Granted → IsGrantOf owner resource level moment
ComesNextAfter before owner _ moment = Unit {0}

abbrev pub ComesNext : History → Moment → Type 0
ComesNext [] moment = Unit {0}
ComesNext (last ∷ before) moment = ComesNextAfter before last.event.actor last.event.act moment

-- An event may happen after what was before.
pub record MayHappen (at : Scene) (moment : Moment) : Type 0 where
  pub alive : MayAct at moment.event.actor moment.event.act
  pub follows : ComesNext at.past moment
  pub guard : Guard at moment.event.actor moment.event.act

-- A history over a file is legal where each of its events may happen at its place.
abbrev pub IsLegal : Shape → View → History → Type 0
IsLegal shape file [] = Unit {0}
IsLegal shape file (moment ∷ before) = IsLegal shape file before × MayHappen (scene_of shape file before) moment
