-- When a note holds for an owner, and what it rests on.
use Rattle.std.specs.Prelude.{◌≡◌, ℕ, true, IfSome}
use Rattle.fbc_kinds.specs.declared.shapes.Shape.{Shape}
use Rattle.fbc_kinds.specs.Machine.{seen_by}
use Rattle.fbc_kinds.specs.View.{View}
use Rattle.fbc_world.specs.History.{History}
use Rattle.fbc_world.specs.World.{World, world_of}
use Rattle.fbc_closed_cuts.specs.Firm.{IsFirm}
use Rattle.fbc_simulation.specs.Beside.{machine_of}
use Rattle.fbc_notes.specs.declared.notes.Note.{Note}
use Rattle.fbc_notes.specs.declared.notes.Note.TheVariants as note
use Rattle.fbc_notes.specs.Notes.{passes, support_of}
use Rattle.fbc_firm_facts.specs.Grounds.{IsGround}
use Rattle.fbc_firm_facts.specs.Standing.{StandsFirmly}

-- What was seen of a row is what the owner sees on the machine. A `Ground` is one, and the owner stands in a cell, while it
-- has an open transaction.
-- What any other note says is shown by every view that has all the owner's drafts.
abbrev pub NoteHolds : Shape → View → History → ℕ → Note → Type 0
NoteHolds shape file history owner (note.Sees relation row value) = seen_by (machine_of shape file history) owner relation row ≡ value
NoteHolds shape file history owner (note.Ground relation sequence page) =
    IfSome ((world_of shape file history).transaction owner) (IsGround shape file history owner relation sequence page)
NoteHolds shape file history owner (note.Stands relation row page cell version) =
    IfSome ((world_of shape file history).transaction owner) (StandsFirmly shape file history owner relation row page cell version)
NoteHolds shape file history owner made = IsFirm (world_of shape file history) owner (passes shape made)

-- The owner has the page pinned on which the note rests, if it rests on one.
abbrev pub IsSupported : World → ℕ → Note → Type 0
IsSupported w owner note = IfSome (support_of note) (λ page. w.is_pinned owner page ≡ true)
