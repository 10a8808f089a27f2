-- Who came so far, who of them is alive, and by which names.
use Rattle.std.specs.Prelude.{ℕ, suc, ◌==◌, not, if◌then◌else◌, List, [], ◌∷◌, ◌++◌, filter}
use Rattle.fbc_world.specs.declared.events.Act.{Act}
use Rattle.fbc_world.specs.declared.events.Act.TheVariants.{Die, Enter, Leave, Write}
use Rattle.fbc_world.specs.History.{History}

-- How many owners came.
abbrev pub entered_step : ℕ → Act → ℕ
entered_step count (Enter buffers name) = suc count
entered_step count _ = count

abbrev pub entered : History → ℕ
entered [] = 0
entered (moment ∷ before) = entered_step (entered before) moment.event.act

-- All of these but one.
abbrev pub all_but : ℕ → List ℕ → List ℕ
all_but owner owners = filter (λ other. not (other == owner)) owners

-- The living owners, in the order in which they came. A failed write is its owner's death.
abbrev pub living_step : List ℕ → ℕ → Act → List ℕ
living_step owners owner (Enter buffers name) = owners ++ owner ∷ []
living_step owners owner Leave = all_but owner owners
living_step owners owner Die = all_but owner owners
living_step owners owner (Write page cause failed) = if failed then all_but owner owners else owners
living_step owners owner _ = owners

abbrev pub living : History → List ℕ
living [] = []
living (moment ∷ before) = living_step (living before) moment.event.actor moment.event.act

-- The number of the name by which an owner came; 0 where it did not.
abbrev pub name_step : ℕ → Act → ℕ
name_step name (Enter buffers own) = own
name_step name _ = name

abbrev pub name_of : History → ℕ → ℕ
name_of [] owner = 0
name_of (moment ∷ before) owner = if moment.event.actor == owner then name_step (name_of before owner) moment.event.act else name_of before owner
