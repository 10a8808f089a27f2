-- How the making of a new file ends: what was told, and what stands on the device.
use Rattle.std.specs.Prelude.{◌≡◌, ◌++◌, ℕ, Bool, true, false, List, [], Option, Some, None, Ok, Err, codes}
use Rattle.std.specs.Fmt.{decimal}
use Rattle.fbc_kinds.specs.Machine.{empty}
use Rattle.fbc_files.specs.declared.relations.NewRelation.{NewRelation}
use Rattle.fbc_files.specs.Creating.{HoldsIfEmpty, IsNewFile, IsPartOfNewFile}
use Rattle.fbc_files.specs.NewPages.{page_count}
use Rattle.fbc_console.specs.declared.statuses.Status.{Status}
use Rattle.fbc_console.specs.declared.statuses.Status.TheVariants as status
use Rattle.fbc_console.specs.Statuses.{line_of}
use Rattle.fbc_console.specs.Closing.{Outcome}
use Rattle.fbc_console.specs.PlayTheorem.{HasFileOf}
use Rattle.fbc_console.specs.Bytes.{IsEmpty}

-- Something stands on it.
abbrev pub IsOccupied : Option (List ℕ) → Type 0
IsOccupied None = Unit {0}
IsOccupied (Some bytes) = bytes ≡ [] → ⊥

-- Why no file was made, with nothing changed: bytes stand there already, the length was not to be had, or there was no memory.
abbrev pub WhyNotMade : Status → Option (List ℕ) → Type 0
WhyNotMade status.Occupied before = IsOccupied before
WhyNotMade status.DeviceFault before = Unit {0}
WhyNotMade status.OutOfMemory before = Unit {0}
WhyNotMade _ before = ⊥

-- The line that tells how many pages a new file has.
abbrev pub created_line : List NewRelation → List ℕ
created_line relations = line_of (codes "created " ++ decimal (page_count relations))

-- A new file stands, whole: it is sound, however far a device reaches, and means the machine without rows.
pub record IsFileMade (size : ℕ) (relations : List NewRelation) (before now : Option (List ℕ)) : Type 0 where
  pub stands : HoldsIfEmpty (IsNewFile size relations) before now
  pub means : (reach : ℕ) → HasFileOf reach now empty

-- What was told, and what stands: the whole file with its line, of which the sink may have failed; or after a fault of the device some of the file's writes.
abbrev pub IsMade : Outcome → ℕ → List NewRelation → List ℕ → Option (List ℕ) → Option (List ℕ) → Type 0
IsMade (Ok done) size relations told before now = (told ≡ created_line relations) × IsFileMade size relations before now
IsMade (Err status.SinkFault) size relations told before now = (told ≡ created_line relations) × IsFileMade size relations before now
IsMade (Err status.DeviceFault) size relations told before now = (told ≡ []) × HoldsIfEmpty (IsPartOfNewFile size relations) before now
IsMade (Err _) size relations told before now = ⊥

-- `create` was carried out.
pub data IsCreateDone (size : ℕ) (relations : List NewRelation) (before now : Option (List ℕ)) (outcome : Outcome) (told : List ℕ) : Type 0 where
  unmade : (ended : Status) → outcome ≡ Err ended → WhyNotMade ended before → told ≡ [] → now ≡ before → IsCreateDone size relations before now outcome told
  made : IsEmpty before → IsMade outcome size relations told before now → IsCreateDone size relations before now outcome told

-- Whether nothing stands on the device.
abbrev pub TellsVacant : Bool → Option (List ℕ) → Type 0
TellsVacant true file = IsEmpty file
TellsVacant false file = IsOccupied file
