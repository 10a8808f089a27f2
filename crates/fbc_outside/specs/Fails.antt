-- Which calls of a device in memory fail, by the list that it was made with.
use Rattle.std.specs.Prelude.{ℕ, zero, suc, ◌+◌, ◌-◌, ◌^◌, ◌==◌, List, [], ◌∷◌, ◌++◌, Bool, true, false, ◌&&◌, if◌then◌else◌, nat_lt, Option, Some, None, find}
use Rattle.std.specs.Option.{option_map}
use Rattle.fbc_outside.specs.declared.fault.CallKind.{CallKind}
use Rattle.fbc_outside.specs.declared.fault.CallKind.TheVariants.{Length, Read, Write}
use Rattle.fbc_outside.specs.declared.fault.Fail.{Fail}

-- Two kinds of call are the same.
abbrev pub is_same_kind : CallKind → CallKind → Bool
is_same_kind Length Length = true
is_same_kind Read Read = true
is_same_kind Write Write = true
is_same_kind _ _ = false

-- An entry is for the call of this kind and number.
abbrev pub is_for : CallKind → ℕ → Fail → Bool
is_for kind number fail = is_same_kind fail.kind kind && (fail.number == number)

-- Whether the call of a kind after so many earlier ones is listed to fail, and if so whether it takes effect: the first entry for it counts, and the counters end at 2^64 - 1.
abbrev pub failure : List Fail → CallKind → ℕ → Option Bool
failure fails kind calls =
    if nat_lt calls (2 ^ 64 - 1) then option_map (λ fail. fail.landed) (find (is_for kind (calls + 1)) fails) else None

-- A list of landings after a write that failed, or did not.
abbrev pub with_landing : List Bool → Option Bool → List Bool
with_landing landings None = landings
with_landing landings (Some landed) = landings ++ landed ∷ []

-- The landings after so many writes.
unfoldable pub landings_of : List Fail → ℕ → List Bool
landings_of fails zero = []
landings_of fails (suc n) = with_landing (landings_of fails n) (failure fails Write n)
