-- What an open transaction may note of a row by the row's own cell, it sees.
use Rattle.std.proofs.Common.{◌≡◌, ◌∙◌, ◌/◌, ◌%◌, ℕ, List, Option, Some, None, refl, sym}
use Rattle.std.specs.List.{All}
use Rattle.std.proofs.lemmas.List.Elements.{All-contains}
use Rattle.fbc_kinds.specs.declared.pages.Cell.{Cell}
use Rattle.fbc_kinds.specs.declared.pages.Page.{Page}
use Rattle.fbc_kinds.specs.declared.shapes.Shape.{Shape}
use Rattle.fbc_kinds.specs.declared.snapshots.Transaction.{Transaction}
use Rattle.fbc_kinds.specs.Edits.{value_length}
use Rattle.fbc_kinds.specs.Limits.{cells}
use Rattle.fbc_kinds.specs.Machine.{is_held, seen_by}
use Rattle.fbc_kinds.specs.View.{View, cell_in}
use Rattle.fbc_world.specs.History.{History}
use Rattle.fbc_world.specs.World.{World, world_of}
use Rattle.fbc_legal.specs.Scene.{scene_of}
use Rattle.fbc_soundness.specs.Whole.{IsWhole}
use Rattle.fbc_simulation.specs.Beside.{machine_of}
use Rattle.fbc_simulation.specs.Simulated.{IsSimulated}
use Rattle.fbc_notes.specs.declared.notes.Note.{Note}
use Rattle.fbc_notes.specs.declared.notes.Note.TheVariants as note
use Rattle.fbc_notes.specs.Sights.{MaySee, TellsSeen, of_held, of_lone, of_none}
use Rattle.fbc_firm_facts.specs.NotesHold.{NoteHolds}
use Rattle.fbc_firm_facts.specs.OwnCells.{ShowsOwnCell}
use Rattle.fbc_firm_facts.proofs.OwnCellsSeen.{held-seen, lone-seen, none-seen}

module _ (shape : Shape) (file : View) (history : History) (whole : IsWhole (scene_of shape file history)) (simulated : IsSimulated (scene_of shape file history))
    (owner : ℕ) (t : Transaction) (open_is : (world_of shape file history).transaction owner ≡ Some t) (notes : List Note) (all : All (NoteHolds shape file history owner) notes)
    (relation row : ℕ) (value : Option (List ℕ)) where
  abbrev w : World
  w = world_of shape file history

  abbrev count : ℕ
  count = cells shape.size (value_length shape relation)

  shows : (may : MaySee shape (is_held t.snapshot) (w.copy owner) notes relation row value) → ShowsOwnCell shape w owner relation row may.version
  shows may = go (w.copy owner may.page) refl may.stands where
    go : (o : Option Page) → w.copy owner may.page ≡ o → cell_in o (row % count) ≡ Some may.version → ShowsOwnCell shape w owner relation row may.version
    go None copied stands = absurd cc
    go (Some content) copied stands = record {
      sequence = row / count;
      place = row % count;
      pointer = may.pointer;
      page = may.page;
      content = content;
      row_is = record { sequence_is = refl; place_is = refl };
      named = All-contains (NoteHolds shape file history owner) notes (note.Named relation (row / count) may.pointer may.page) all may.named;
      copied = copied;
      stands = stands;
    }

  told : (version : Cell) → ShowsOwnCell shape w owner relation row version → TellsSeen (is_held t.snapshot) version value → seen_by (machine_of shape file history) owner relation row ≡ value
  told version shown (of_held top held is) = held-seen (scene_of shape file history) whole simulated owner t open_is relation row version shown top held ∙ is
  told version shown (of_lone top unheld alone is) = lone-seen (scene_of shape file history) whole simulated owner t open_is relation row version shown top unheld alone ∙ sym is
  told version shown (of_none none is) = none-seen (scene_of shape file history) whole simulated owner t open_is relation row version shown none ∙ sym is

  pub sight-holds : MaySee shape (is_held t.snapshot) (w.copy owner) notes relation row value → NoteHolds shape file history owner (note.Sees relation row value)
  sight-holds may = told may.version (shows may) may.tells
