-- What may be noted by the pages that are at hand.
use Rattle.std.specs.Prelude.{◌/◌, ◌%◌, ◌==◌, ◌&&◌, ◌++◌, ◌∷◌, [], ℕ, Bool, false, not, nat_lt, length}
use Rattle.fbc_kinds.specs.Limits.{slots}
use Rattle.fbc_notes.specs.declared.notes.Note.{Note}
use Rattle.fbc_notes.specs.declared.notes.Note.TheVariants as note
use Rattle.fbc_cache.specs.Cache.{is_pinned_in}
use Rattle.fbc_cache.specs.Readers.{number_at, slot_shown}
use Rattle.fbc_cache.specs.Remembered.{pointers_of}
use Rattle.fbc_desk.specs.Desk.{DeskState}

-- Whether a pointer page that is known as the relation's, and is at hand, names the data page for the sequence.
abbrev pub names_now : DeskState → ℕ → ℕ → ℕ → ℕ → Bool
names_now d relation sequence pointer page =
    (number_at (pointers_of d.cache.pointers relation) (sequence / slots d.cache.shape.size) == pointer) && not (pointer == 0)
    && (slot_shown d.cache pointer (sequence % slots d.cache.shape.size) == page) && not (page == 0)

-- Whether a note may be made: that a page is named, while it is in use. The kinds that no statement makes yet are not made.
abbrev pub may_note_now : DeskState → Note → Bool
may_note_now d (note.Named relation sequence pointer page) = is_pinned_in d.cache.held page && names_now d relation sequence pointer page
may_note_now d _ = false

-- How many notes have a place.
abbrev pub note_limit : ℕ
note_limit = 64

-- The desk with one note more.
abbrev pub with_note : Note → DeskState → DeskState
with_note note d = record d { notes = d.notes ++ note ∷ [] }

-- Whether a note is made: it may be, and has a place.
abbrev pub is_noted : DeskState → Note → Bool
is_noted d note = may_note_now d note && nat_lt (length d.notes) note_limit
