-- What a chronicle keeps of its journal, and what a region keeps beside it.
use Rattle.std.specs.Prelude.{◌≡◌, ℕ, ◌≤◌, true, length}
use Rattle.std.specs.List.{AllByRecursion}
use Rattle.fbc_levels.specs.declared.resources.Request.{Request}
use Rattle.fbc_levels.specs.LockState.{LockState}
use Rattle.fbc_levels.specs.declared.resources.Resource.{Resource}
use Rattle.fbc_lock_table.specs.declared.answers.Asked.TheVariants.{Granted}
use Rattle.fbc_lock_table.specs.Answers.{answer_to_ask}
use Rattle.fbc_legal.specs.Circles.{HasJustAsked}
use Rattle.fbc_legal.specs.Lives.{entered, living}
use Rattle.fbc_world.specs.declared.events.Act.{Act}
use Rattle.fbc_world.specs.declared.events.Act.TheVariants.{Ask}
use Rattle.fbc_world.specs.History.{History, Recording, recorded}
use Rattle.fbc_world.specs.Locks.{locks_of}
use Rattle.fbc_world.specs.Owners.{is_alive}
use Rattle.fbc_region.specs.Census.{IsCensus, most_owners}
use Rattle.fbc_region.specs.declared.census.Census.{Census}
use Rattle.fbc_region.specs.Shared.{HasRoom, locks_in}

-- No ask still waits for the grant that follows it at once: so it is between two steps.
abbrev pub IsAtRest : History → Type 0
IsAtRest history = (owner : ℕ) (resource : Resource) → ¬ HasJustAsked history owner resource

-- After the act no ask waits for its grant: it is none, or is not granted at once.
abbrev pub LeavesRest : History → ℕ → Act → Type 0
LeavesRest before owner (Ask resource level wait word) = ¬ (answer_to_ask (locks_of before) owner resource level wait ≡ Granted)
LeavesRest before owner _ = Unit {0}

-- No more owners come in the journal than there are numbers for, it does not end within a step, and the census is that of its owners.
pub record IsChronicle (journal : Recording) (census : Census) : Type 0 where
  pub few : entered (recorded journal) ≤ most_owners
  pub rests : IsAtRest (recorded journal)
  pub census_is : IsCensus (recorded journal) census

-- A request is of an owner that came, and says of it whether it is alive.
abbrev pub IsOfCome : History → Request → Type 0
IsOfCome history r = (r.alive ≡ is_alive history r.owner) × (r.owner ≤ entered history)

-- The table has the requests after what the journal records, each of an owner that came. No more owners came than there are numbers
-- for, and all that are alive are among them. No more than eight are alive, and there is a place for the death of each.
pub record IsKept (journal : Recording) (table : LockState) : Type 0 where
  pub requests : table ≡ locks_in journal
  pub within : entered (recorded journal) ≤ most_owners
  pub few : length (living (recorded journal)) ≤ 8
  pub aside : HasRoom journal 0
  pub come : AllByRecursion (IsOfCome (recorded journal)) table.requests
  pub living_came : (owner : ℕ) → is_alive (recorded journal) owner ≡ true → owner ≤ entered (recorded journal)
