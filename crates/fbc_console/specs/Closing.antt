-- The status by which a call ends, and what its sink has taken then.
use Rattle.std.specs.Prelude.{◌≡◌, ◌≤◌, ◌++◌, ℕ, List, [], length, take, Result, Ok, Err}
use Rattle.fbc_outside.specs.Streams.{SinkTakes, SinkTakesSome}
use Rattle.fbc_console.specs.declared.statuses.Status.{Status}
use Rattle.fbc_console.specs.declared.statuses.Status.TheVariants as status
use Rattle.fbc_console.specs.Statuses.{status_line}

-- How a part of a call ended: well, or with a status.
abbrev pub Outcome : Type 0
Outcome = Result (Unit {0}) Status

-- A sink took what was told, or a first part of it where the sink failed.
abbrev pub Took : Outcome → (List ℕ → Type 0) → (List ℕ → Type 0) → List ℕ → Type 0
Took (Err status.SinkFault) old new told = SinkTakesSome old new told
Took _ old new told = SinkTakes old new told

-- A sink took what was told, and then a first part of a line.
abbrev pub SinkTakesPast : (List ℕ → Type 0) → (List ℕ → Type 0) → List ℕ → List ℕ → Type 0
SinkTakesPast old new told line = (text : List ℕ) → old text → (n : ℕ) × (n ≤ length line) × new ((text ++ told) ++ take n line)

-- The status line was written behind what was told; or the sink failed at it, or there was no memory for it.
pub data Closes (old new : List ℕ → Type 0) (told : List ℕ) (ended last : Status) : Type 0 where
  written : last ≡ ended → SinkTakes old new (told ++ status_line ended) → Closes old new told ended last
  cut : last ≡ status.SinkFault → SinkTakesPast old new told (status_line ended) → Closes old new told ended last
  short : last ≡ status.OutOfMemory → SinkTakesPast old new told (status_line status.OutOfMemory) → Closes old new told ended last

-- The status by which a call ends, and what its sink took: a status that has a line ends with it.
abbrev pub EndsWith : Outcome → (List ℕ → Type 0) → (List ℕ → Type 0) → List ℕ → Status → Type 0
EndsWith (Ok done) old new told last = (last ≡ status.Ok) × SinkTakes old new told
EndsWith (Err status.Damaged) old new told last = (last ≡ status.Damaged) × SinkTakes old new told
EndsWith (Err status.SinkFault) old new told last = (last ≡ status.SinkFault) × SinkTakesSome old new told
EndsWith (Err status.OutOfMemory) old new told last = (last ≡ status.OutOfMemory) × SinkTakesPast old new told (status_line status.OutOfMemory)
EndsWith (Err ended) old new told last = Closes old new told ended last

-- The end of a call after its command was carried out: the sink has taken the line of the status, or a first part of it.
pub data IsLineWritten (old new : List ℕ → Type 0) (ended last : Status) : Type 0 where
  whole : last ≡ ended → SinkTakes old new (status_line ended) → IsLineWritten old new ended last
  part : last ≡ status.SinkFault → SinkTakesSome old new (status_line ended) → IsLineWritten old new ended last
  memory : last ≡ status.OutOfMemory → SinkTakesSome old new (status_line status.OutOfMemory) → IsLineWritten old new ended last

abbrev pub IsClosed : Outcome → (List ℕ → Type 0) → (List ℕ → Type 0) → Status → Type 0
IsClosed (Ok done) old new last = (last ≡ status.Ok) × SinkTakes old new []
IsClosed (Err status.Damaged) old new last = (last ≡ status.Damaged) × SinkTakes old new []
IsClosed (Err status.SinkFault) old new last = (last ≡ status.SinkFault) × SinkTakes old new []
IsClosed (Err status.OutOfMemory) old new last = (last ≡ status.OutOfMemory) × SinkTakesSome old new (status_line status.OutOfMemory)
IsClosed (Err ended) old new last = IsLineWritten old new ended last
