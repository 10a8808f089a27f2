use Rattle.std.specs.Prelude.{◌/◌, ◌%◌, ◌==◌, ◌++◌, ℕ, Bool, List, [], ◌∷◌}
use Rattle.fbc_kinds.specs.declared.pages.State.{State}
use Rattle.fbc_kinds.specs.TipSpelling.{state_of_code}

-- The four states of a byte.
abbrev pub states_of : ℕ → List State
states_of byte = state_of_code (byte % 4) ∷ state_of_code (byte / 4 % 4) ∷ state_of_code (byte / 16 % 4) ∷ state_of_code (byte / 64 % 4) ∷ []

-- The marks of the four lowest bits.
abbrev pub four_marks : ℕ → List Bool
four_marks bits = (bits % 2 == 1) ∷ (bits / 2 % 2 == 1) ∷ (bits / 4 % 2 == 1) ∷ (bits / 8 % 2 == 1) ∷ []

-- The eight marks of a byte.
abbrev pub marks_of : ℕ → List Bool
marks_of byte = four_marks byte ++ four_marks (byte / 16)
