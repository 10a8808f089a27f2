-- Who is alive, and which levels are granted.
use Rattle.std.specs.Prelude.{ℕ, Bool, true, false, ◌==◌, ◌&&◌, if◌then◌else◌, [], ◌∷◌}
use Rattle.fbc_levels.specs.declared.levels.Level.{Level}
use Rattle.fbc_levels.specs.declared.levels.Level.TheVariants.{Free}
use Rattle.fbc_levels.specs.declared.resources.Resource.{Resource}
use Rattle.fbc_levels.specs.Resources.{is_same_resource}
use Rattle.fbc_world.specs.declared.events.Act.{Act}
use Rattle.fbc_world.specs.declared.events.Act.TheVariants.{Die, Enter, Grant, Leave, Lower, Opened, Reap, Write}
use Rattle.fbc_world.specs.History.{History}

-- Whether an owner is alive after an act of its own: it is from its coming to its going or its death, and a failed write
-- is its death.
abbrev pub alive_step : Bool → Act → Bool
alive_step alive (Enter buffers name) = true
alive_step alive Leave = false
alive_step alive Die = false
alive_step alive (Write page cause failed) = if failed then false else alive
alive_step alive _ = alive

-- Whether the owner is alive after a history.
abbrev pub is_alive : History → ℕ → Bool
is_alive [] owner = false
is_alive (moment ∷ before) owner = if moment.event.actor == owner then alive_step (is_alive before owner) moment.event.act else is_alive before owner

-- The level that the owner is granted on the resource after an act of some actor. What a dead owner was granted stays
-- until it is reaped, or until the file is opened again.
abbrev pub granted_step : ℕ → Resource → Level → ℕ → Act → Level
granted_step owner resource level actor (Opened locks) = Free
granted_step owner resource level actor (Grant other new) = if (actor == owner) && is_same_resource other resource then new else level
granted_step owner resource level actor (Lower other new) = if (actor == owner) && is_same_resource other resource then new else level
granted_step owner resource level actor (Reap dead by) = if dead == owner then Free else level
granted_step owner resource level actor _ = level

-- The level that the owner is granted on the resource after a history.
abbrev pub granted : History → ℕ → Resource → Level
granted [] owner resource = Free
granted (moment ∷ before) owner resource = granted_step owner resource (granted before owner resource) moment.event.actor moment.event.act
