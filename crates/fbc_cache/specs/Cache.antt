-- What one attachment keeps for itself.
use Rattle.std.specs.Prelude.{◌≡◌, ◌≤◌, ℕ, Bool, true, false, List, Option, Some, None, length, is_some, is_none}
use Rattle.std.specs.List.{AllByRecursion, filter}
use Rattle.std.specs.Option.{option_and_then, option_map_or}
use Rattle.fbc_kinds.specs.declared.edges.Edge.{Edge}
use Rattle.fbc_kinds.specs.declared.pages.Page.{Page}
use Rattle.fbc_kinds.specs.declared.shapes.Shape.{Shape}
use Rattle.fbc_kinds.specs.Edits.{IsWithinLimits}
use Rattle.fbc_levels.specs.declared.levels.Level.{Level}
use Rattle.fbc_levels.specs.declared.levels.Level.TheVariants.{Ex, Free, Pr}
use Rattle.fbc_buffers.specs.declared.buffers.Buffer.{Buffer}
use Rattle.fbc_buffers.specs.Holding.{buffer_of, is_waiting}
use Rattle.fbc_levels.specs.Levels.{is_page_level}

-- The shape of the file; how many buffers there are, and those in use, the one whose last use is longest ago first; the pairs of
-- pages of which the first is to be written before the second; and the pointer pages of each relation as the header last showed them.
pub record CacheState : Type 0 where
  pub shape : Shape
  pub room : ℕ
  pub held : List Buffer
  pub pairs : List Edge
  pub pointers : List (List ℕ)

-- What is held of a page: its level, what may be used of it, and whether it is dirty or pinned.
abbrev pub level_in : List Buffer → ℕ → Level
level_in held page = option_map_or (λ (b : Buffer). b.level) (buffer_of held page) Free

abbrev pub copy_in : List Buffer → ℕ → Option Page
copy_in held page = option_and_then (λ (b : Buffer). b.copy) (buffer_of held page)

abbrev pub is_dirty_in : List Buffer → ℕ → Bool
is_dirty_in held page = option_map_or (λ (b : Buffer). b.is_dirty) (buffer_of held page) false

abbrev pub is_pinned_in : List Buffer → ℕ → Bool
is_pinned_in held page = option_map_or (λ (b : Buffer). b.is_pinned) (buffer_of held page) false

-- Whether a page is held: its grant was learnt.
abbrev pub is_granted_in : List Buffer → ℕ → Bool
is_granted_in held page = option_map_or (λ (b : Buffer). is_none b.wanted) (buffer_of held page) false

-- A page that is waited for has no level yet.
abbrev pub HasLevel : Level → Option Level → Type 0
HasLevel level None = is_page_level level ≡ true
HasLevel level (Some wanted) = (level ≡ Free) × (is_page_level wanted ≡ true)

-- A copy is one of a page that is held, and is within its limits.
abbrev pub HasCopy : Shape → Option Level → Option Page → Type 0
HasCopy shape wanted (Some copy) = (wanted ≡ None) × IsWithinLimits shape copy
HasCopy shape wanted None = Unit {0}

-- What a buffer is: a page that is dirty has a copy, and is held in EX; one that is pinned is held.
pub record IsBuffer (shape : Shape) (b : Buffer) : Type 0 where
  pub level : HasLevel b.level b.wanted
  pub copy : HasCopy shape b.wanted b.copy
  pub dirty : b.is_dirty ≡ true → (b.level ≡ Ex) × (is_some b.copy ≡ true)
  pub pinned : b.is_pinned ≡ true → b.wanted ≡ None

-- A pair is of a dirty page with one that is held in EX.
pub record IsHeldPair (held : List Buffer) (pair : Edge) : Type 0 where
  pub high : is_dirty_in held pair.high ≡ true
  pub low : level_in held pair.low ≡ Ex

-- What a cache is. One page is waited for at most.
pub record IsCache (c : CacheState) : Type 0 where
  pub buffers : AllByRecursion (IsBuffer c.shape) c.held
  pub one_wait : length (filter is_waiting c.held) ≤ 1
  pub pairs : AllByRecursion (IsHeldPair c.held) c.pairs
