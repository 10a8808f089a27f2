-- How a scan goes: from row number to row number, upward.
use Rattle.std.specs.Prelude.{◌≡◌, ◌≤◌, ◌<◌, ◌==◌, ◌&&◌, ℕ, nat_le, List, [], ◌∷◌, ◌++◌, Option, Some, None, if◌then◌else◌}
use Rattle.fbc_kinds.specs.Machine as definition
use Rattle.fbc_machine.specs.declared.machine.Version.{Version}

-- The lesser of a row number and a version's, if that is one of the relation from some number on.
abbrev pub lesser : ℕ → Option ℕ → Option ℕ
lesser row None = Some row
lesser row (Some least) = if nat_le least row then Some least else Some row

abbrev pub nearer : ℕ → ℕ → Option ℕ → Version → Option ℕ
nearer relation from next version = if (version.relation == relation) && nat_le from version.row then lesser version.row next else next

-- No row of the relation has a version, from some number on to the next one, or at all if there is none.
abbrev pub IsNextRow : definition.Machine → ℕ → ℕ → Option ℕ → Type 0
IsNextRow machine relation from None = (row : ℕ) → from ≤ row → machine.rows relation row ≡ []
IsNextRow machine relation from (Some next) = (from ≤ next) × ((row : ℕ) → from ≤ row → row < next → machine.rows relation row ≡ [])

-- The rows with one more, if a value is seen there.
abbrev pub added : Option (List ℕ) → ℕ → List (ℕ × List ℕ) → List (ℕ × List ℕ)
added None row rows = rows
added (Some value) row rows = rows ++ (row, value) ∷ []
