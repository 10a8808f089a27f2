-- What a read takes from a source, and what a write gives to a sink.
use Rattle.std.specs.Prelude.{◌≡◌, ℕ, ◌<◌, ◌≤◌, ◌↔◌, List, [], ◌++◌, length, take, drop, Option, Some, None}

-- A read takes so many of the first bytes left, puts them first into the buffer, and takes none only at the end or into no room.
pub record TakesFrom (left now : List ℕ) (n : ℕ) (into : List ℕ) : Type 0 where
  pub fits : n ≤ length into
  pub within : n ≤ length left
  pub ends : 0 < length into → (n ≡ 0) ↔ (left ≡ [])
  pub first : take n into ≡ take n left
  pub rest : now ≡ drop n left

-- The same of a source that may not tell its bytes; whether it tells them does not change.
abbrev pub Takes : Option (List ℕ) → Option (List ℕ) → ℕ → List ℕ → Type 0
Takes None now n into = now ≡ None
Takes (Some left) None n into = ⊥
Takes (Some left) (Some now) n into = TakesFrom left now n into

-- Of a piece some bytes are taken, at least one if it has any.
abbrev pub IsTaken : ℕ → List ℕ → Type 0
IsTaken n piece = (n ≤ length piece) × (0 < length piece → 0 < n)

-- Each text that a sink may have taken before, followed by these bytes, it may have taken afterwards.
abbrev pub SinkTakes : (List ℕ → Type 0) → (List ℕ → Type 0) → List ℕ → Type 0
SinkTakes before now bytes = (text : List ℕ) → before text → now (text ++ bytes)

-- The same with some first part of the bytes.
abbrev pub SinkTakesSome : (List ℕ → Type 0) → (List ℕ → Type 0) → List ℕ → Type 0
SinkTakesSome before now bytes = (text : List ℕ) → before text → (n : ℕ) × (n ≤ length bytes) × now (text ++ take n bytes)

-- The texts that a sink may have taken are those of before, with nothing added.
abbrev pub SinkStands : (List ℕ → Type 0) → (List ℕ → Type 0) → Type 0
SinkStands before now = (text : List ℕ) → before text ↔ now text
