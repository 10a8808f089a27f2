-- What a device in memory is made of, and what each of its calls does to it.
use Rattle.std.specs.Prelude.{◌≡◌, ℕ, ◌≤◌, List, Bool, length, Option, Some, None, is_some, Result, is_err}
use Rattle.fbc_outside.specs.Bytes.{written}
use Rattle.fbc_outside.specs.Fails.{failure, is_same_kind, landings_of}
use Rattle.fbc_outside.specs.Faults.{count_after}
use Rattle.fbc_outside.specs.Landings.{landed_bytes}
use Rattle.fbc_outside.specs.declared.fault.CallKind.{CallKind}
use Rattle.fbc_outside.specs.declared.fault.CallKind.TheVariants.{Length, Read, Write}
use Rattle.fbc_outside.specs.declared.fault.Fail.{Fail}
use Rattle.fbc_outside.specs.declared.memory_device.MemoryDevice.{MemoryDevice}

-- Its bytes.
abbrev pub bytes_of : MemoryDevice → List ℕ
bytes_of d = d.buffer.bytes.items

-- The number of bytes that it can have at most.
abbrev pub reach_of : MemoryDevice → ℕ
reach_of d = d.buffer.limit

-- The calls that are to fail.
abbrev pub fails_of : MemoryDevice → List Fail
fails_of d = d.fails.items

-- How many calls of a kind there were.
abbrev pub calls_of : CallKind → MemoryDevice → ℕ
calls_of Length d = d.lengths
calls_of Read d = d.reads
calls_of Write d = d.writes

-- How many of its calls were answered Failed.
abbrev pub faults_of : MemoryDevice → ℕ
faults_of d = d.faults

-- Its landings: for each of its writes that failed, whether it took effect.
abbrev pub landings_now : MemoryDevice → List Bool
landings_now d = landings_of (fails_of d) (calls_of Write d)

-- Whether its next call of a kind fails, and if so whether it takes effect.
abbrev pub failing : CallKind → MemoryDevice → Option Bool
failing kind d = failure (fails_of d) kind (calls_of kind d)

-- A call of a kind fails exactly where it is listed to fail; it and its fault are counted, and nothing else than the bytes changes.
pub record IsCall {T E : Type 0} (kind : CallKind) (before now : MemoryDevice) (result : Result T E) : Type 0 where
  pub listed : is_err result ≡ is_some (failing kind before)
  pub faults : faults_of now ≡ count_after (is_err result) (faults_of before)
  pub lengths : calls_of Length now ≡ count_after (is_same_kind kind Length) (calls_of Length before)
  pub reads : calls_of Read now ≡ count_after (is_same_kind kind Read) (calls_of Read before)
  pub writes : calls_of Write now ≡ count_after (is_same_kind kind Write) (calls_of Write before)
  pub fails : fails_of now ≡ fails_of before
  pub reach : reach_of now ≡ reach_of before

-- The bytes after a write: written where it does not fail, and as its entry says where it does.
abbrev pub bytes_after : Option Bool → ℕ → List ℕ → List ℕ → List ℕ
bytes_after None at from bytes = written at from bytes
bytes_after (Some landed) at from bytes = landed_bytes landed at from bytes

-- The bytes are within the reach.
pub memory_within : (d : MemoryDevice) → length (bytes_of d) ≤ reach_of d
memory_within d = d.buffer.within
