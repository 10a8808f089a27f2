-- Owners that came and went.
use Rattle.std.specs.Prelude.{◌≡◌, ℕ, []}
use Rattle.fbc_legal.specs.Lives.{entered, living}
use Rattle.fbc_world.specs.History.{Recording, recorded}

-- So many owners came, and none of them is alive.
pub record HaveGone (journal : Recording) (owners : ℕ) : Type 0 where
  pub came : entered (recorded journal) ≡ owners
  pub nobody : living (recorded journal) ≡ []
