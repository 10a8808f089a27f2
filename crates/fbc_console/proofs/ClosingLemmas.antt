-- What a sink has taken after a command was carried out and the line of the status was written.
use Rattle.std.proofs.Common.{◌≤◌, ◌++◌, ℕ, List, [], length, take, Ok, Err, sym, subst}
use Rattle.std.proofs.lemmas.List.{append-nil}
use Rattle.fbc_outside.specs.Streams.{SinkTakes, SinkTakesSome}
use Rattle.fbc_console.specs.declared.statuses.Status.{Status}
use Rattle.fbc_console.specs.declared.statuses.Status.TheVariants as status
use Rattle.fbc_console.specs.Statuses.{status_line}
use Rattle.fbc_console.specs.Closing.{Outcome, Took, SinkTakesPast, Closes, written, cut, short, EndsWith, IsLineWritten, whole, part, memory, IsClosed}
use Rattle.fbc_console.proofs.SayingLemmas.{takes_both, takes_none}

-- A sink that is not called.
pub takes_nothing : (a : List ℕ → Type 0) → SinkTakes a a []
takes_nothing a text had = subst a (sym (append-nil text)) had

-- A first part of a text, and then nothing.
some_none : (a b c : List ℕ → Type 0) (x : List ℕ) → SinkTakesSome a b x → SinkTakes b c [] → SinkTakesSome a c x
some_none a b c x first next text had = go (first text had)
  where
    go : ((n : ℕ) × (n ≤ length x) × b (text ++ take n x)) → (n : ℕ) × (n ≤ length x) × c (text ++ take n x)
    go (n, within, has) = (n, within, subst c (append-nil (text ++ take n x)) (next (text ++ take n x) has))

past : (a b c : List ℕ → Type 0) (x y : List ℕ) → SinkTakes a b x → SinkTakesSome b c y → SinkTakesPast a c x y
past a b c x y first next text had = next (text ++ x) (first text had)

closes : (a b c : List ℕ → Type 0) (told : List ℕ) (ended last : Status) → SinkTakes a b told → IsLineWritten b c ended last → Closes a c told ended last
closes a b c told ended last first (whole is took) = written is (takes_both a b c told (status_line ended) first took)
closes a b c told ended last first (part is took) = cut is (past a b c told (status_line ended) first took)
closes a b c told ended last first (memory is took) = short is (past a b c told (status_line status.OutOfMemory) first took)

pub ends : (outcome : Outcome) (a b c : List ℕ → Type 0) (told : List ℕ) (last : Status) → Took outcome a b told → IsClosed outcome b c last → EndsWith outcome a c told last
ends (Ok done) a b c told last took closed = (closed.0, takes_none a b c told took closed.1)
ends (Err status.Damaged) a b c told last took closed = (closed.0, takes_none a b c told took closed.1)
ends (Err status.SinkFault) a b c told last took closed = (closed.0, some_none a b c told took closed.1)
ends (Err status.OutOfMemory) a b c told last took closed = (closed.0, past a b c told (status_line status.OutOfMemory) took closed.1)
ends (Err status.Ok) a b c told last took closed = closes a b c told status.Ok last took closed
ends (Err status.Usage) a b c told last took closed = closes a b c told status.Usage last took closed
ends (Err (status.Script line why)) a b c told last took closed = closes a b c told (status.Script line why) last took closed
ends (Err (status.NotOurs rule)) a b c told last took closed = closes a b c told (status.NotOurs rule) last took closed
ends (Err status.DeviceFault) a b c told last took closed = closes a b c told status.DeviceFault last took closed
ends (Err status.SourceFault) a b c told last took closed = closes a b c told status.SourceFault last took closed
ends (Err status.Occupied) a b c told last took closed = closes a b c told status.Occupied last took closed
ends (Err status.SourceLong) a b c told last took closed = closes a b c told status.SourceLong last took closed
ends (Err status.Later) a b c told last took closed = closes a b c told status.Later last took closed
