-- A note that holds goes on to through every event of another, while the page on which it rests is pinned.
use Rattle.std.proofs.Common.{◌≡◌, ◌≢◌, ◌∙◌, ℕ, Bool, true, ◌∷◌, None, Option, Some, refl, subst, sym}
use Rattle.std.specs.Option.{IfSome}
use Rattle.fbc_kinds.specs.declared.shapes.Shape.{Shape}
use Rattle.fbc_kinds.specs.declared.snapshots.Transaction.{Transaction}
use Rattle.fbc_kinds.specs.Machine.{seen_by}
use Rattle.fbc_kinds.specs.View.{View}
use Rattle.fbc_world.specs.declared.events.Act.{Act}
use Rattle.fbc_world.specs.History.{History, happens}
use Rattle.fbc_world.specs.World.{World, world_of}
use Rattle.fbc_world.proofs.WorldFrame.{transaction-frame}
use Rattle.fbc_legal.specs.Legal.{IsLegal}
use Rattle.fbc_legal.specs.Scene.{scene_of}
use Rattle.fbc_closed_cuts.specs.Firm.{IsFirm}
use Rattle.fbc_numbers.specs.Numbers.{is_committed_in}
use Rattle.fbc_soundness.specs.Whole.{IsWhole}
use Rattle.fbc_simulation.specs.Beside.{machine_of}
use Rattle.fbc_simulation.specs.Simulated.{IsSimulated}
use Rattle.fbc_notes.specs.declared.notes.Note.{Note}
use Rattle.fbc_notes.specs.declared.notes.Note.TheVariants as note
use Rattle.fbc_notes.specs.declared.notes.Outcome.TheVariants as outcome
use Rattle.fbc_notes.specs.DeadNumbers.{is_dead_in}
use Rattle.fbc_notes.specs.HeaderTests.{counts_inventory, names_pointer, names_tip}
use Rattle.fbc_notes.specs.Notes.{is_lasting}
use Rattle.fbc_notes.specs.RowNames.{names_row}
use Rattle.fbc_firm_facts.specs.Grounds.{IsGround}
use Rattle.fbc_firm_facts.specs.HeaderFacts.{GrowsWithHeaders}
use Rattle.fbc_firm_facts.specs.Standing.{StandsFirmly}
use Rattle.fbc_firm_facts.specs.NotesHold.{IsSupported, NoteHolds}
use Rattle.fbc_firm_facts.proofs.EventsLeave.{others-keep, own-keep}
use Rattle.fbc_firm_facts.proofs.GroundFirm.{ground-kept}
use Rattle.fbc_firm_facts.proofs.HeaderFactsStay.{header-kept}
use Rattle.fbc_firm_facts.proofs.HeaderTests.{inventories-grow, pointers-grow, tips-grow}
use Rattle.fbc_firm_facts.proofs.NamesStay.{names-kept}
use Rattle.fbc_firm_facts.proofs.StandsStay.{stand-kept}
use Rattle.fbc_firm_facts.proofs.NumbersStay.{commits-kept, dead-kept}

module _ (shape : Shape) (file : View) (before : History) (owner actor : ℕ) (landed : Bool) (act : Act) (whole : IsWhole (scene_of shape file before)) (simulated : IsSimulated (scene_of shape file before))
    (whole_after : IsWhole (scene_of shape file (happens actor act landed ∷ before))) (simulated_after : IsSimulated (scene_of shape file (happens actor act landed ∷ before))) (legal : IsLegal shape file (happens actor act landed ∷ before)) (apart : actor ≢ owner)
    (same_seen : (relation row : ℕ) → seen_by (machine_of shape file (happens actor act landed ∷ before)) owner relation row ≡ seen_by (machine_of shape file before) owner relation row) where
  abbrev was : World
  was = world_of shape file before

  abbrev now : World
  now = world_of shape file (happens actor act landed ∷ before)

  header-note : (test : View → Bool) → GrowsWithHeaders test → IsFirm was owner test → IsFirm now owner test
  header-note test grows firm =
      others-keep shape file before owner (λ seen. test seen ≡ true) actor landed apart act legal
      (header-kept shape file before owner actor landed test whole.order.upheld grows act) firm

  pub note-kept : (n : Note) → IsSupported was owner n → NoteHolds shape file before owner n → NoteHolds shape file (happens actor act landed ∷ before) owner n
  note-kept (note.Tip sequence page) pinned firm = header-note (names_tip sequence page) (tips-grow sequence page) firm
  note-kept (note.Pointer relation sequence page) pinned firm = header-note (names_pointer relation sequence page) (pointers-grow relation sequence page) firm
  note-kept (note.Counted sequence) pinned firm = header-note (counts_inventory sequence) (inventories-grow sequence) firm
  note-kept (note.Over number outcome.Committed) pinned firm =
      others-keep shape file before owner (λ seen. is_committed_in seen number ≡ true) actor landed apart act legal
      (commits-kept shape file before owner actor landed whole number act) firm
  note-kept (note.Over number outcome.Dead) pinned firm =
      others-keep shape file before owner (λ seen. is_dead_in seen number ≡ true) actor landed apart act legal
      (dead-kept shape file before owner actor landed whole number act) firm
  note-kept (note.Named relation sequence pointer page) pinned firm =
      others-keep shape file before owner (λ seen. names_row shape relation sequence pointer page seen ≡ true) actor landed apart act legal
      (names-kept shape file before owner actor landed relation sequence pointer page whole.order.upheld apart pinned act) firm
  note-kept (note.Ground relation sequence page) pinned holds =
      subst (λ o. IfSome o (IsGround shape file (happens actor act landed ∷ before) owner relation sequence page))
      (sym (transaction-frame shape was actor owner apart act landed)) (go (was.transaction owner) refl holds)
    where
      go : (o : Option Transaction) → was.transaction owner ≡ o → IfSome o (IsGround shape file before owner relation sequence page)
          → IfSome o (IsGround shape file (happens actor act landed ∷ before) owner relation sequence page)
      go None none holds = holds
      go (Some t) open_is holds = ground-kept shape file before whole simulated owner actor landed act legal apart t open_is relation sequence page same_seen holds
  note-kept (note.Stands relation row page cell version) pinned holds =
      subst (λ o. IfSome o (StandsFirmly shape file (happens actor act landed ∷ before) owner relation row page cell version))
      (sym (transaction-frame shape was actor owner apart act landed)) (go (was.transaction owner) refl holds)
    where
      go : (o : Option Transaction) → was.transaction owner ≡ o → IfSome o (StandsFirmly shape file before owner relation row page cell version)
          → IfSome o (StandsFirmly shape file (happens actor act landed ∷ before) owner relation row page cell version)
      go None none holds = holds
      go (Some t) open_is holds =
          stand-kept shape file before whole simulated owner actor landed act whole_after simulated_after legal apart t open_is
          (transaction-frame shape was actor owner apart act landed ∙ open_is) same_seen relation row page cell version pinned holds
  note-kept (note.Sees relation row value) pinned sees = same_seen relation row ∙ sees

-- Lasting notes hold on through the owner's own events as well, its edits among them.
module _ (shape : Shape) (file : View) (before : History) (owner : ℕ) (landed : Bool) (act : Act) (whole : IsWhole (scene_of shape file before)) (legal : IsLegal shape file (happens owner act landed ∷ before))
    (lives : (world_of shape file (happens owner act landed ∷ before)).is_alive owner ≡ true) where
  own-header-note : (test : View → Bool) → GrowsWithHeaders test → IsFirm (world_of shape file before) owner test → IsFirm (world_of shape file (happens owner act landed ∷ before)) owner test
  own-header-note test grows firm =
      own-keep shape file before owner (λ seen. test seen ≡ true) landed act legal lives
      (header-kept shape file before owner owner landed test whole.order.upheld grows act) firm

  pub lasting-kept : (n : Note) → is_lasting n ≡ true → NoteHolds shape file before owner n → NoteHolds shape file (happens owner act landed ∷ before) owner n
  lasting-kept (note.Tip sequence page) lasts firm = own-header-note (names_tip sequence page) (tips-grow sequence page) firm
  lasting-kept (note.Pointer relation sequence page) lasts firm = own-header-note (names_pointer relation sequence page) (pointers-grow relation sequence page) firm
  lasting-kept (note.Counted sequence) lasts firm = own-header-note (counts_inventory sequence) (inventories-grow sequence) firm
  lasting-kept (note.Over number outcome.Committed) lasts firm =
      own-keep shape file before owner (λ seen. is_committed_in seen number ≡ true) landed act legal lives
      (commits-kept shape file before owner owner landed whole number act) firm
  lasting-kept (note.Over number outcome.Dead) lasts firm =
      own-keep shape file before owner (λ seen. is_dead_in seen number ≡ true) landed act legal lives
      (dead-kept shape file before owner owner landed whole number act) firm
  lasting-kept (note.Named relation sequence pointer page) lasts firm = absurd cc
  lasting-kept (note.Ground relation sequence page) lasts firm = absurd cc
  lasting-kept (note.Stands relation row page cell version) lasts firm = absurd cc
  lasting-kept (note.Sees relation row value) lasts firm = absurd cc
