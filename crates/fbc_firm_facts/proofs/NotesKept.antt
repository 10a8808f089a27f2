-- A note that holds goes on to through its owner's own events that are no edits.
use Rattle.std.proofs.Common.{◌≡◌, ◌∙◌, ◌∷◌, ℕ, true, false, Some, None, ap, subst, sym}
use Rattle.std.specs.Option.{IfSome}
use Rattle.fbc_kinds.specs.declared.shapes.Shape.{Shape}
use Rattle.fbc_kinds.specs.declared.snapshots.Transaction.{Transaction}
use Rattle.fbc_kinds.specs.Machine.{Machine, seen_by}
use Rattle.fbc_kinds.specs.View.{View}
use Rattle.fbc_world.specs.History.{History, Moment}
use Rattle.fbc_world.specs.World.{world_of}
use Rattle.fbc_legal.specs.Legal.{IsLegal}
use Rattle.fbc_closed_cuts.specs.Firm.{IsFirm}
use Rattle.fbc_closed_cuts.specs.Views.{is_edit}
use Rattle.fbc_notes.specs.declared.notes.Note.{Note}
use Rattle.fbc_notes.specs.declared.notes.Note.TheVariants as note
use Rattle.fbc_notes.specs.Notes.{passes}
use Rattle.fbc_firm_facts.specs.Grounds.{IsGround}
use Rattle.fbc_firm_facts.specs.NotesHold.{NoteHolds}
use Rattle.fbc_firm_facts.proofs.GroundFirm.{open-stays, own-ground-kept}
use Rattle.fbc_firm_facts.proofs.OwnActs.{own-acts-keep}
use Rattle.fbc_firm_facts.proofs.StandsStay.{own-stand-kept}
use Rattle.fbc_firm_facts.specs.Standing.{StandsFirmly}
use Rattle.fbc_firm_facts.proofs.OwnSeen.{own-acts-leave}

module _ (shape : Shape) (file : View) (before : History) (moment : Moment) (t : Transaction) (legal : IsLegal shape file (moment ∷ before)) (plain : is_edit moment.event.act ≡ false)
    (lives : (world_of shape file (moment ∷ before)).is_alive moment.event.actor ≡ true)
    (open_is : (world_of shape file before).transaction moment.event.actor ≡ Some t) (unmarked : (world_of shape file before).marked moment.event.actor ≡ None) where
  abbrev owner : ℕ
  owner = moment.event.actor

  tested : (n : Note) → IsFirm (world_of shape file before) owner (passes shape n) → IsFirm (world_of shape file (moment ∷ before)) owner (passes shape n)
  tested n firm = own-acts-keep shape file before moment legal plain (λ seen. passes shape n seen ≡ true) lives firm

  pub own-notes-kept : (n : Note) → NoteHolds shape file before owner n → NoteHolds shape file (moment ∷ before) owner n
  own-notes-kept (note.Tip sequence page) firm = tested (note.Tip sequence page) firm
  own-notes-kept (note.Pointer relation sequence page) firm = tested (note.Pointer relation sequence page) firm
  own-notes-kept (note.Counted sequence) firm = tested (note.Counted sequence) firm
  own-notes-kept (note.Over number outcome) firm = tested (note.Over number outcome) firm
  own-notes-kept (note.Named relation sequence pointer page) firm = tested (note.Named relation sequence pointer page) firm
  own-notes-kept (note.Ground relation sequence page) holds =
      subst (λ o. IfSome o (IsGround shape file (moment ∷ before) owner relation sequence page)) (sym (open-stays shape file before moment t legal plain lives open_is unmarked))
      (own-ground-kept shape file before moment t legal plain lives open_is unmarked (own-acts-leave shape file before moment t legal plain lives open_is unmarked) relation sequence page
      (subst (λ o. IfSome o (IsGround shape file before owner relation sequence page)) open_is holds))
  own-notes-kept (note.Stands relation row page cell version) holds =
      subst (λ o. IfSome o (StandsFirmly shape file (moment ∷ before) owner relation row page cell version)) (sym (open-stays shape file before moment t legal plain lives open_is unmarked))
      (own-stand-kept shape file before moment t legal plain lives (own-acts-leave shape file before moment t legal plain lives open_is unmarked) relation row page cell version
      (subst (λ o. IfSome o (StandsFirmly shape file before owner relation row page cell version)) open_is holds))
  own-notes-kept (note.Sees relation row value) sees =
      ap (λ (m : Machine). seen_by m owner relation row) (own-acts-leave shape file before moment t legal plain lives open_is unmarked) ∙ sees
