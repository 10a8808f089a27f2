-- Which slot is empty.
use Rattle.std.specs.Prelude.{◌≡◌, ◌≤◌, ◌<◌, ◌*◌, ◌+◌, ℕ, Option, Some, None, length}
use Rattle.fbc_kinds.specs.Limits.{slots}
use Rattle.fbc_cache.specs.Least.{IsLeast}
use Rattle.fbc_cache.specs.Remembered.{pointers_of}
use Rattle.fbc_desk.specs.declared.holding.Held.TheVariants as held
use Rattle.fbc_chains.specs.Pages.{LooksAt, StandsAt}
use Rattle.fbc_chains.specs.Showing.{Showing}
use Rattle.fbc_rows.specs.declared.gathering.Empty.{Empty}
use Rattle.fbc_rows.specs.declared.gathering.Empty.TheVariants as empty
use Rattle.fbc_rows.specs.declared.parts.RowStep.{RowStep}
use Rattle.fbc_rows.specs.declared.parts.RowStep.TheVariants as step
use Rattle.fbc_rows.specs.Needs.{pointer_at, pointer_place}
use Rattle.fbc_rows.specs.Slots.{is_unnamed}

-- The pointer page of a sequence is there, in its place.
abbrev pub IsAtHand : Showing → ℕ → ℕ → Type 0
IsAtHand s relation pointer = StandsAt s (pointer_at s relation pointer) (pointer_place relation pointer)

-- The sequence of its first slot that names no page; none where each slot names one.
pub record IsFirstEmpty (s : Showing) (relation pointer sequence : ℕ) : Type 0 where
  pub slot : ℕ
  pub is_sequence : sequence ≡ pointer * slots s.shape.size + slot
  pub least : IsLeast (is_unnamed s (pointer_at s relation pointer) (slots s.shape.size)) (Some slot)

abbrev pub FirstEmpty : Showing → ℕ → ℕ → Option ℕ → Type 0
FirstEmpty s relation pointer (Some sequence) = IsFirstEmpty s relation pointer sequence
FirstEmpty s relation pointer None = IsLeast (is_unnamed s (pointer_at s relation pointer) (slots s.shape.size)) None

-- The pointer page has no empty slot.
pub record IsFull (s : Showing) (relation pointer : ℕ) : Type 0 where
  pub here : IsAtHand s relation pointer
  pub full : FirstEmpty s relation pointer None

-- What a look at a pointer page comes to: it is full, or has an empty slot, or may not be read.
abbrev pub LooksForEmpty : Showing → ℕ → ℕ → Option Empty → Type 0
LooksForEmpty s relation pointer None = IsFull s relation pointer
LooksForEmpty s relation pointer (Some (empty.At sequence)) = IsAtHand s relation pointer × IsFirstEmpty s relation pointer sequence
LooksForEmpty s relation pointer (Some (empty.Miss need)) = LooksAt s (pointer_at s relation pointer) (pointer_place relation pointer) (held.Miss need)
LooksForEmpty s relation pointer (Some (empty.Damaged page broken)) =
    LooksAt s (pointer_at s relation pointer) (pointer_place relation pointer) (held.Damaged page broken)

-- What the search for an empty slot comes to where it stands: it is past all pointer pages that are known, or stopped at one.
abbrev pub FindsEmpty : Showing → ℕ → ℕ → Option Empty → Type 0
FindsEmpty s relation pointer None = length (pointers_of s.pointers relation) ≤ pointer
FindsEmpty s relation pointer found = LooksForEmpty s relation pointer found

-- Each pointer page from the first number on and before the second is full.
abbrev pub AreFull : Showing → ℕ → ℕ → ℕ → Type 0
AreFull s relation from to = (pointer : ℕ) → from ≤ pointer → pointer < to → IsFull s relation pointer

-- What the insert comes to by what stops the search.
abbrev pub EmptyEnds : Empty → Option RowStep → Type 0
EmptyEnds (empty.At sequence) found = found ≡ None
EmptyEnds (empty.Miss need) found = found ≡ Some (step.Miss need)
EmptyEnds (empty.Damaged page broken) found = found ≡ Some (step.Damaged page broken)
