-- A request that is there is not entered again.
use Rattle.std.proofs.Common.{◌≡◌, ℕ, true, List, is_some, refl}
use Rattle.std.specs.List.{find}
use Rattle.fbc_levels.specs.declared.resources.Request.{Request}
use Rattle.fbc_levels.specs.declared.resources.Resource.{Resource}
use Rattle.fbc_levels.specs.LockState.{is_of}
use Rattle.fbc_lock_table.specs.Effects.{entered}

pub entered-there : (rs : List Request) (owner : ℕ) (resource : Resource) (word : ℕ) → is_some (find (is_of owner resource) rs) ≡ true → entered rs owner resource word ≡ rs
entered-there rs owner resource word there = rw there refl
