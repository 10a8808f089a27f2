-- What a write that was answered Failed leaves, and the list that says which of them took effect.
use Rattle.std.specs.Prelude.{◌≡◌, ℕ, List, [], ◌∷◌, ◌++◌, Bool, Option, Some, None, if◌then◌else◌}
use Rattle.fbc_outside.specs.Bytes.{written}

-- The bytes after a failed write that landed, or that did not.
abbrev pub landed_bytes : Bool → ℕ → List ℕ → List ℕ → List ℕ
landed_bytes landed at from bytes = if landed then written at from bytes else bytes

-- After a failed write the list of landings has one more entry, which says whether the bytes are the written ones or those before.
abbrev pub LandedOrNot : Option (List ℕ) → Option (List ℕ) → List Bool → List Bool → ℕ → List ℕ → Type 0
LandedOrNot None now landings_before landings_now at from = now ≡ None
LandedOrNot (Some bytes) now landings_before landings_now at from =
    (landed : Bool) × (landings_now ≡ landings_before ++ landed ∷ []) × (now ≡ Some (landed_bytes landed at from bytes))
