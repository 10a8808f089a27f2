-- What a call over the outside keeps besides its answer: the frame that the clauses of the crates above cite.
use Rattle.std.specs.Prelude.{◌≡◌, ℕ, ◌≤◌, List, Bool, Option}
use Rattle.fbc_outside.specs.Faults.{Rose}

-- A source or a sink is blamed fairly: its count of faults does not fall, and an answer that blames it comes only where the count rose.
pub record IsBlamedFairly {X : Type 0} (faults : X → ℕ) (blames : Type 0) (old new : X) : Type 0 where
  pub later : faults old ≤ faults new
  pub risen : blames → Rose (faults old) (faults new)

-- A device is faithful: its reach stays, and it is blamed fairly.
pub record IsFaithful {X : Type 0} (reach_of faults : X → ℕ) (blames : Type 0) (old new : X) : Type 0 where
  pub reach : reach_of new ≡ reach_of old
  pub later : faults old ≤ faults new
  pub risen : blames → Rose (faults old) (faults new)

-- A device is unwritten: its bytes stay, no write is counted, and none landed.
pub record IsUnwritten {X : Type 0} (bytes_of : X → Option (List ℕ)) (writes_of : X → ℕ) (landings_of : X → List Bool) (old new : X) : Type 0 where
  pub bytes : bytes_of new ≡ bytes_of old
  pub writes : writes_of new ≡ writes_of old
  pub landings : landings_of new ≡ landings_of old
