-- What slots of pointer pages name.
use Rattle.std.specs.Prelude.{◌==◌, ◌&&◌, ℕ, Bool, true, nat_lt, unwrap_or}
use Rattle.fbc_kinds.specs.View.{slot_in}
use Rattle.fbc_desk.specs.declared.holding.Held.TheVariants as held
use Rattle.fbc_chains.specs.declared.places.RowPlace.{RowPlace}
use Rattle.fbc_chains.specs.Pages.{LooksAt}
use Rattle.fbc_chains.specs.Showing.{Showing}
use Rattle.fbc_chains.specs.Slots.{NamesBy, pointer_due, pointer_over}
use Rattle.fbc_rows.specs.declared.slots.SlotStep.{SlotStep}
use Rattle.fbc_rows.specs.declared.slots.SlotStep.TheVariants as slot

-- The first row of a sequence.
abbrev pub data_at : ℕ → ℕ → RowPlace
data_at relation sequence = record { relation = relation; sequence = sequence; cell = 0 }

-- The slot of the sequence names the page, 0 where it names none: its pointer page is there, in its place.
abbrev pub Names : Showing → ℕ → ℕ → ℕ → Type 0
Names s relation sequence page = NamesBy true s (data_at relation sequence) page

-- What a look at the slot of the sequence comes to.
abbrev pub LooksAtSlot : Showing → ℕ → ℕ → SlotStep → Type 0
LooksAtSlot s relation sequence (slot.Names page) = Names s relation sequence page
LooksAtSlot s relation sequence (slot.Miss need) = LooksAt s (pointer_over s (data_at relation sequence)) (pointer_due s (data_at relation sequence)) (held.Miss need)
LooksAtSlot s relation sequence (slot.Damaged page broken) =
    LooksAt s (pointer_over s (data_at relation sequence)) (pointer_due s (data_at relation sequence)) (held.Damaged page broken)

-- Whether it is one of so many slots of a pointer page, and names no page.
abbrev pub is_unnamed : Showing → ℕ → ℕ → ℕ → Bool
is_unnamed s pointer slots slot = nat_lt slot slots && (unwrap_or (slot_in (s.copies pointer) slot) 0 == 0)
