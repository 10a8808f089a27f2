-- The slot that names the data page of a row.
use Rattle.std.specs.Prelude.{◌≡◌, ◌/◌, ◌%◌, ℕ, Bool, true, false, nat_lt, length, unwrap_or}
use Rattle.fbc_kinds.specs.Limits.{slots}
use Rattle.fbc_kinds.specs.View.{slot_in}
use Rattle.fbc_cache.specs.declared.readers.Place.{Place}
use Rattle.fbc_cache.specs.Readers.{number_at, place}
use Rattle.fbc_cache.specs.Remembered.{pointers_of}
use Rattle.fbc_desk.specs.declared.holding.Held.TheVariants as held
use Rattle.fbc_chains.specs.declared.places.RowPlace.{RowPlace}
use Rattle.fbc_chains.specs.declared.slots.SlotStep.{SlotStep}
use Rattle.fbc_chains.specs.declared.slots.SlotStep.TheVariants as slot
use Rattle.fbc_chains.specs.Pages.{LooksAt, StandsAt}
use Rattle.fbc_chains.specs.Showing.{Showing}

-- The pointer page with the slot: its sequence, whether it is known, its number, and where it is due.
abbrev pub pointer_sequence : Showing → RowPlace → ℕ
pointer_sequence s at = at.sequence / slots s.shape.size

abbrev pub is_known : Showing → RowPlace → Bool
is_known s at = nat_lt (pointer_sequence s at) (length (pointers_of s.pointers at.relation))

abbrev pub pointer_over : Showing → RowPlace → ℕ
pointer_over s at = number_at (pointers_of s.pointers at.relation) (pointer_sequence s at)

abbrev pub pointer_due : Showing → RowPlace → Place
pointer_due s at = place 4 at.relation (pointer_sequence s at)

-- What the slot names, 0 where it names no page.
abbrev pub named_at : Showing → RowPlace → ℕ
named_at s at = unwrap_or (slot_in (s.copies (pointer_over s at)) (at.sequence % slots s.shape.size)) 0

-- The slot names the page: its pointer page is there, in its place. Past the pointer pages that are known it names none.
abbrev pub NamesBy : Bool → Showing → RowPlace → ℕ → Type 0
NamesBy true s at page = StandsAt s (pointer_over s at) (pointer_due s at) × (page ≡ named_at s at)
NamesBy false s at page = page ≡ 0

abbrev pub Names : Showing → RowPlace → ℕ → Type 0
Names s at page = NamesBy (is_known s at) s at page

-- What a look at the slot comes to: past the pointer pages that are known there is none.
abbrev pub SlotComesTo : Bool → Showing → RowPlace → SlotStep → Type 0
SlotComesTo known s at (slot.Names page) = NamesBy known s at page
SlotComesTo true s at (slot.Miss need) = LooksAt s (pointer_over s at) (pointer_due s at) (held.Miss need)
SlotComesTo true s at (slot.Damaged page broken) = LooksAt s (pointer_over s at) (pointer_due s at) (held.Damaged page broken)
SlotComesTo false s at _ = ⊥

abbrev pub LooksAtSlot : Showing → RowPlace → SlotStep → Type 0
LooksAtSlot s at step = SlotComesTo (is_known s at) s at step
