-- What notes say of a view, which page each rests on, and when one may be made.
use Rattle.std.specs.Prelude.{◌==◌, ◌/◌, ◌%◌, ◌&&◌, ℕ, Bool, false, true, List, Option, Some, None}
use Rattle.std.specs.Option.{option_map_or}
use Rattle.std.specs.List.{list_any}
use Rattle.fbc_kinds.specs.declared.pages.State.{State}
use Rattle.fbc_kinds.specs.declared.shapes.Shape.{Shape}
use Rattle.fbc_kinds.specs.Chain.{state_of}
use Rattle.fbc_kinds.specs.Limits.{slots, tip_numbers}
use Rattle.fbc_kinds.specs.View.{View, is_committed_state, named_in, state_in}
use Rattle.fbc_notes.specs.declared.notes.Note.{Note}
use Rattle.fbc_notes.specs.declared.notes.Note.TheVariants as note
use Rattle.fbc_notes.specs.declared.notes.Outcome.{Outcome}
use Rattle.fbc_notes.specs.declared.notes.Outcome.TheVariants as outcome
use Rattle.fbc_notes.specs.DeadNumbers.{is_dead_state}
use Rattle.fbc_notes.specs.HeaderTests.{counts_inventory, is_number, names_pointer, names_tip}
use Rattle.fbc_notes.specs.RowNames.{names_row}

-- Whether a state is that of a transaction with this outcome.
abbrev pub has_outcome : Outcome → State → Bool
has_outcome outcome.Committed state = is_committed_state state
has_outcome outcome.Dead state = is_dead_state state

-- Whether a view shows what the note says. No test of a view alone tells a `Ground`, a place where a reader stands, or what
-- it sees.
abbrev pub passes : Shape → Note → View → Bool
passes shape (note.Tip sequence page) view = names_tip sequence page view
passes shape (note.Pointer relation sequence page) view = names_pointer relation sequence page view
passes shape (note.Counted sequence) view = counts_inventory sequence view
passes shape (note.Over number outcome) view = has_outcome outcome (state_of view number)
passes shape (note.Named relation sequence pointer page) view = names_row shape relation sequence pointer page view
passes shape _ view = false

-- The page whose pin the note rests on, if it rests on one.
abbrev pub support_of : Note → Option ℕ
support_of (note.Named relation sequence pointer page) = Some page
support_of (note.Stands relation row page cell version) = Some page
support_of _ = None

-- Whether what the note says is for good: of a header, that only grows, and of numbers that are over.
abbrev pub is_lasting : Note → Bool
is_lasting (note.Tip sequence page) = true
is_lasting (note.Pointer relation sequence page) = true
is_lasting (note.Counted sequence) = true
is_lasting (note.Over number outcome) = true
is_lasting _ = false

-- Whether the note says that this page has the states of the sequence, and shows this outcome at the place.
abbrev pub shows_outcome : View → ℕ → ℕ → Outcome → Note → Bool
shows_outcome copies sequence place outcome (note.Tip s page) = (s == sequence) && option_map_or (has_outcome outcome) (state_in (copies page) place) false
shows_outcome copies sequence place outcome _ = false

-- Whether the note says that this is the pointer page of the sequence.
abbrev pub says_pointer : ℕ → ℕ → ℕ → Note → Bool
says_pointer relation sequence pointer (note.Pointer r s page) = (r == relation) && (s == sequence) && (page == pointer)
says_pointer relation sequence pointer _ = false

-- Whether the note says that this page is named for the relation and sequence.
abbrev pub says_named : ℕ → ℕ → ℕ → Note → Bool
says_named relation sequence page (note.Named r s pointer p) = (r == relation) && (s == sequence) && (p == page)
says_named relation sequence page _ = false

-- Whether the note may be made, by the copies that are at hand, as a view in which all other pages are missing, and by
-- the notes that were made. What the header shows is noted from its copy. What other pages show is noted from theirs,
-- where a note says which page that is.
abbrev pub may_note : Shape → View → List Note → Note → Bool
may_note shape copies notes (note.Over number outcome) =
    list_any (shows_outcome copies (number / tip_numbers shape.size) (number % tip_numbers shape.size) outcome) notes
may_note shape copies notes (note.Named relation sequence pointer page) =
    list_any (says_pointer relation (sequence / slots shape.size) pointer) notes && is_number (named_in (copies pointer) (sequence % slots shape.size)) page
may_note shape copies notes (note.Ground relation sequence page) = list_any (says_named relation sequence page) notes
may_note shape copies notes made = passes shape made copies
