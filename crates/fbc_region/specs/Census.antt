-- What a census says of a history.
use Rattle.std.specs.Prelude.{◌≡◌, ℕ, ◌<◌, ◌==◌, false, not, if◌then◌else◌, List, [], ◌∷◌, ◌++◌, filter, map}
use Rattle.fbc_legal.specs.Lives.{entered, living, name_of}
use Rattle.fbc_region.specs.declared.census.Census.{Census}
use Rattle.fbc_region.specs.declared.census.Resident.{Resident}
use Rattle.fbc_world.specs.declared.events.Act.{Act}
use Rattle.fbc_world.specs.declared.events.Act.TheVariants.{Die, Enter, Leave, Write}
use Rattle.fbc_world.specs.History.{History}
use Rattle.fbc_world.specs.Owners.{is_alive}

-- So many owners come at most: for more there are no numbers.
abbrev pub most_owners : ℕ
most_owners = 65536

-- An owner with the name by which it came.
abbrev pub resident : History → ℕ → Resident
resident history owner = record { owner = owner; name = name_of history owner }

-- It counts the owners that came, and has a place for each that is alive, in the order in which they came.
pub record IsCensus (history : History) (census : Census) : Type 0 where
  pub count : census.owners ≡ entered history
  pub places : census.residents.items ≡ map (resident history) (living history)

-- The places but that of one owner.
abbrev pub without : ℕ → List Resident → List Resident
without owner residents = filter (λ (r : Resident). not (r.owner == owner)) residents

-- The places after an act of an owner. A failed write is its owner's death.
abbrev pub residents_step : List Resident → ℕ → Act → List Resident
residents_step residents owner (Enter buffers name) = residents ++ record { owner = owner; name = name } ∷ []
residents_step residents owner Leave = without owner residents
residents_step residents owner Die = without owner residents
residents_step residents owner (Write page cause failed) = if failed then without owner residents else residents
residents_step residents owner _ = residents

-- Where an owner comes by the act, fewer than eight are alive.
abbrev pub HasPlace : ℕ → Act → Type 0
HasPlace living (Enter buffers name) = living < 8
HasPlace living _ = Unit {0}

-- Where an owner comes by the act, it is not alive before.
abbrev pub IsNew : History → ℕ → Act → Type 0
IsNew before owner (Enter buffers name) = is_alive before owner ≡ false
IsNew before owner _ = Unit {0}
