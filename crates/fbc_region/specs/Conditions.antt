-- Who may come.
use Rattle.std.specs.Prelude.{◌≡◌, ℕ, suc, ◌==◌, ◌≤◌, ◌<◌, Bool, false, length}
use Rattle.std.specs.List.{list_any}
use Rattle.fbc_legal.specs.Lives.{entered, living, name_of}
use Rattle.fbc_world.specs.History.{History}
use Rattle.fbc_region.specs.Census.{most_owners}

-- Whether a living owner came by the name.
abbrev pub has_name : History → ℕ → Bool
has_name history name = list_any (λ owner. name_of history owner == name) (living history)

-- An owner may come by the name: it is the next one of all, fewer than eight are alive, and none of them has the name.
pub record MayCome (history : History) (owner name : ℕ) : Type 0 where
  pub next : owner ≡ suc (entered history)
  pub within : owner ≤ most_owners
  pub few : length (living history) < 8
  pub name_from : 1 ≤ name
  pub name_to : name ≤ 8
  pub fresh : has_name history name ≡ false
