-- What the source and the sink in memory are made of.
use Rattle.std.specs.Prelude.{ℕ, ◌+◌, ◌-◌, ◌==◌, List, length, drop, Bool, false, Option, Some, None}
use Rattle.fbc_outside.specs.declared.memory_streams.MemorySource.{MemorySource}
use Rattle.fbc_outside.specs.declared.memory_streams.MemorySink.{MemorySink}

-- The number of the call that fails, if one does, is the next after so many earlier calls.
abbrev pub is_next : Option ℕ → ℕ → Bool
is_next None calls = false
is_next (Some number) calls = number == calls + 1

-- The bytes that a source has left.
abbrev pub left_of : MemorySource → List ℕ
left_of s = drop s.taken s.bytes.items

-- The number of its call that fails.
abbrev pub fail_of : MemorySource → Option ℕ
fail_of s = s.fail

-- How many calls of it there were.
abbrev pub reads_of : MemorySource → ℕ
reads_of s = s.reads

-- The bytes that a sink has taken.
abbrev pub taken_by : MemorySink → List ℕ
taken_by s = s.buffer.bytes.items

-- How many more bytes it has room for.
abbrev pub room_of : MemorySink → ℕ
room_of s = s.buffer.limit - length (taken_by s)
