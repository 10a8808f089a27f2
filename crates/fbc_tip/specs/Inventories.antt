-- What the taking of a snapshot comes to.
use Rattle.std.specs.Prelude.{◌≡◌, ◌⊎◌, ◌<◌, ◌≤◌, ◌+◌, ◌*◌, ◌/◌, ◌&&◌, ℕ, Bool, true, false, List, Result, Ok, Some, is_none, length, slice_get}
use Rattle.fbc_kinds.specs.declared.pages.Header.{Header}
use Rattle.fbc_kinds.specs.declared.pages.State.{State}
use Rattle.fbc_kinds.specs.declared.snapshots.Snapshot.{Snapshot}
use Rattle.fbc_kinds.specs.Limits.{tip_numbers}
use Rattle.fbc_levels.specs.declared.levels.Level.TheVariants.{Pr}
use Rattle.fbc_cache.specs.declared.needs.Need.{Need}
use Rattle.fbc_cache.specs.Cache.{copy_in, is_pinned_in}
use Rattle.fbc_cache.specs.Readers.{header_number, number_at, place, place_in, state_shown}
use Rattle.fbc_desk.specs.declared.holding.Held.{Held}
use Rattle.fbc_desk.specs.declared.holding.Held.TheVariants as held
use Rattle.fbc_desk.specs.Desk.{DeskState}
use Rattle.fbc_desk.specs.Holds.{HoldsAs, after_hold}
use Rattle.fbc_desk.specs.Roles.{misplaced}
use Rattle.fbc_tip.specs.declared.inventories.TipStep.{TipStep}
use Rattle.fbc_tip.specs.declared.inventories.TipStep.TheVariants as step

-- The page is needed to be read, and is waited for.
abbrev pub reading : ℕ → Need
reading page = record { page = page; level = Pr; wait = true; fresh = false }

-- The transaction inventory page of a sequence, as the header last showed it.
abbrev pub tip_at : DeskState → ℕ → ℕ
tip_at d sequence = number_at d.tips sequence

-- Whether it is in use, and stands in its place.
abbrev pub is_held_tip : DeskState → ℕ → Bool
is_held_tip d sequence =
    is_pinned_in d.cache.held (tip_at d sequence) && is_none (misplaced (place_in (copy_in d.cache.held (tip_at d sequence))) (place 3 0 sequence))

-- So many of these pages are held at once, from the first on.
abbrev pub AreHeld : DeskState → ℕ → Type 0
AreHeld d count = (sequence : ℕ) → sequence < count → is_held_tip d sequence ≡ true

-- What it comes to when the page of this sequence is to be held.
abbrev pub HoldsTip : DeskState → ℕ → Held → Type 0
HoldsTip d sequence held = HoldsAs d (reading (tip_at d sequence)) (place 3 0 sequence) held

-- All pages are held; or the first one that is not held yet is missing, or is damaged.
abbrev pub TipsCome : DeskState → ℕ → Held → Type 0
TipsCome d count held.Here = count ≡ length d.tips
TipsCome d count (held.Miss need) = (count < length d.tips) × HoldsTip d count (held.Miss need)
TipsCome d count (held.Damaged page rule) = (count < length d.tips) × HoldsTip d count (held.Damaged page rule)

-- The first pages that are in use still: as many as the part has held, but for those from one on that is not.
pub record AreKept (d : DeskState) (old kept : ℕ) : Type 0 where
  pub within : kept ≤ old
  pub few : kept ≤ length d.tips
  pub held : AreHeld d kept
  pub most : (kept ≡ old) ⊎ ((kept ≡ length d.tips) ⊎ (is_held_tip d kept ≡ false))

-- The pages from one sequence on are held in turn, each once, up to another.
pub data HoldsInTurn : DeskState → ℕ → DeskState → ℕ → Type 0 where
  none : (d : DeskState) (sequence : ℕ) → HoldsInTurn d sequence d sequence
  next : (before d after : DeskState) (first sequence next : ℕ) → HoldsInTurn before first d sequence → HoldsTip d sequence held.Here
      → after ≡ after_hold d (reading (tip_at d sequence)) held.Here → next ≡ sequence + 1 → HoldsInTurn before first after next

-- The desk after the last page, which is not held.
abbrev pub EndsHolding : DeskState → ℕ → DeskState → Held → Type 0
EndsHolding d sequence after held.Here = after ≡ d
EndsHolding d sequence after (held.Miss need) = after ≡ d
EndsHolding d sequence after (held.Damaged page rule) = after ≡ after_hold d (reading (tip_at d sequence)) (held.Damaged page rule)

-- A page that is in use still is not held again; the others are held in turn, up to the one that comes to this.
pub record HoldsOn (before : DeskState) (old : ℕ) (after : DeskState) (new : ℕ) (answer : Held) : Type 0 where
  pub kept : ℕ
  pub are_kept : AreKept before old kept
  pub between : DeskState
  pub turns : HoldsInTurn before kept between new
  pub ends : EndsHolding between new after answer

-- The states are those that the copies of the pages show: a number's stands on the page of its sequence.
pub record AreStatesOf (d : DeskState) (states : List State) : Type 0 where
  pub count : length states ≡ length d.tips * tip_numbers d.cache.shape.size
  pub shown : (number : ℕ) → number < length states
      → slice_get states number ≡ Some (state_shown d.cache (tip_at d (number / tip_numbers d.cache.shape.size)) number)

-- The snapshot of this moment: all pages are held at once, its number is the header's next, and its states are those of the pages.
pub record IsInventory (d : DeskState) (snapshot : Snapshot) : Type 0 where
  pub held : AreHeld d (length d.tips)
  pub own : snapshot.own ≡ header_number (λ (h : Header). h.next) d.cache
  pub states : AreStatesOf d snapshot.states

-- What it comes to, where so many pages are held.
abbrev pub InventoryComesTo : DeskState → ℕ → TipStep → Type 0
InventoryComesTo d count (step.Done snapshot) = TipsCome d count held.Here × IsInventory d snapshot
InventoryComesTo d count (step.Miss need) = TipsCome d count (held.Miss need)
InventoryComesTo d count (step.Damaged page rule) = TipsCome d count (held.Damaged page rule)

-- What the holding came to.
abbrev pub last_hold : {E : Type 0} → Result TipStep E → Held
last_hold (Ok (step.Miss need)) = held.Miss need
last_hold (Ok (step.Damaged page rule)) = held.Damaged page rule
last_hold _ = held.Here
