-- What an owner may note by its copies, and by notes that hold, holds.
use Rattle.std.proofs.Common.{◌≡◌, ◌∙◌, ◌==◌, ◌/◌, ◌%◌, ◌&&◌, ◌||◌, ℕ, Bool, true, false, if◌then◌else◌, nat_lt, List, [], ◌∷◌, Option, Some, None, is_some, refl, sym, ap, subst}
use Rattle.std.specs.List.{All, list_any}
use Rattle.std.specs.Option.{IfSome, option_and_then, option_map_or, unwrap_or}
use Rattle.std.proofs.lemmas.List.Elements.{All-head, All-tail}
use Rattle.fbc_kinds.specs.declared.pages.Header.{Header}
use Rattle.fbc_kinds.specs.declared.pages.Page.{Page}
use Rattle.fbc_kinds.specs.declared.pages.State.{State}
use Rattle.fbc_kinds.specs.declared.pages.State.TheVariants.{Active}
use Rattle.fbc_kinds.specs.declared.shapes.Shape.{Shape}
use Rattle.fbc_kinds.specs.declared.snapshots.Transaction.{Transaction}
use Rattle.fbc_kinds.specs.Chain.{state_of}
use Rattle.fbc_kinds.specs.Limits.{slots, tip_numbers}
use Rattle.fbc_kinds.specs.View.{View, header_in, inventory_page, named_in, state_in, tip_of}
use Rattle.fbc_kinds.proofs.Heads.{both_pass}
use Rattle.fbc_kinds.proofs.Tests.{same_from_test}
use Rattle.fbc_page_edits.proofs.HeaderStands.{size_is}
use Rattle.fbc_world.specs.History.{History}
use Rattle.fbc_world.specs.World.{world_of}
use Rattle.fbc_legal.specs.Scene.{Scene, scene_of}
use Rattle.fbc_closed_cuts.specs.Cut.{Cut, view}
use Rattle.fbc_closed_cuts.specs.Firm.{HasOwnDrafts}
use Rattle.fbc_closed_cuts.specs.Upheld.{IsUpheld}
use Rattle.fbc_closed_cuts.proofs.Firmness.{copy-firm}
use Rattle.fbc_numbers.proofs.CutFacts.{clash}
use Rattle.fbc_numbers.proofs.PageStates.{state_at, tip_in}
use Rattle.fbc_origins.proofs.RowsWritten.{pointer_by}
use Rattle.fbc_notes.specs.declared.notes.Note.{Note}
use Rattle.fbc_notes.specs.declared.notes.Note.TheVariants as note
use Rattle.fbc_notes.specs.declared.notes.Outcome.{Outcome}
use Rattle.fbc_notes.specs.HeaderTests.{is_number, names_pointer}
use Rattle.fbc_notes.specs.Notes.{has_outcome, may_note, passes, says_named, says_pointer, shows_outcome}
use Rattle.fbc_firm_facts.specs.Grounds.{IsGround}
use Rattle.fbc_firm_facts.specs.NotesHold.{NoteHolds}
use Rattle.fbc_firm_facts.proofs.GroundFirm.{named-ground}
use Rattle.fbc_firm_facts.proofs.NamesStay.{found}

-- What follows from each note that passes follows where some note of a list does.
from_some : (Holds : Note → Type 0) (test : Note → Bool) (Wanted : Type 0) → ((n : Note) → Holds n → test n ≡ true → Wanted)
    → (notes : List Note) → All Holds notes → list_any test notes ≡ true → Wanted
from_some Holds test Wanted follows [] all is = absurd cc
from_some Holds test Wanted follows (n ∷ notes) all is = go (test n) refl is (from_some Holds test Wanted follows notes (All-tail Holds n notes all)) where
  go : (b : Bool) → test n ≡ b → (b || list_any test notes) ≡ true → (list_any test notes ≡ true → Wanted) → Wanted
  go true passed either others = follows n (All-head Holds n notes all) passed
  go false failed either others = others either

-- A state with an outcome that was found is the one that stands.
stands_with : (outcome : Outcome) (o : Option State) → option_map_or (has_outcome outcome) o false ≡ true → has_outcome outcome (unwrap_or o Active) ≡ true
stands_with outcome None is = absurd cc
stands_with outcome (Some state) is = is

module _ (shape : Shape) (file : View) (history : History) (u : IsUpheld (scene_of shape file history)) (owner : ℕ) (cut : Cut) (own : HasOwnDrafts (world_of shape file history) owner cut) where
  abbrev at : Scene
  at = scene_of shape file history

  abbrev seen : View
  seen = view at.world cut

  abbrev copies : View
  copies = at.world.copy owner

  -- What a copied page shows the view shows.
  copied : (test : Option Page → Bool) (page : ℕ) → test None ≡ false → test (copies page) ≡ true → test (seen page) ≡ true
  copied test page fails is = go (copies page) refl is where
    go : (o : Option Page) → copies page ≡ o → test o ≡ true → test (seen page) ≡ true
    go None stands passed = absurd (clash (test None) passed fails)
    go (Some content) stands passed = ap test (copy-firm at.world u.coherent owner page content stands cut own) ∙ passed

  module _ (number : ℕ) (outcome : Outcome) where
    abbrev sequence : ℕ
    sequence = number / tip_numbers shape.size

    abbrev place : ℕ
    place = number % tip_numbers shape.size

    over_by : (tip : ℕ) → tip_of seen sequence ≡ Some tip → option_map_or (has_outcome outcome) (state_in (seen tip) place) false ≡ true → has_outcome outcome (state_of seen number) ≡ true
    over_by tip named shown =
        ap (λ n. has_outcome outcome (state_at seen (number % tip_numbers n) (tip_of seen (number / tip_numbers n)))) (size_is shape seen (u.of_shape cut own.closed) (u.sound cut own.closed))
        ∙ ap (λ o. has_outcome outcome (state_at seen place o)) named
        ∙ stands_with outcome (state_in (seen tip) place) shown

    pub over : (n : Note) → NoteHolds shape file history owner n → shows_outcome copies sequence place outcome n ≡ true → has_outcome outcome (state_of seen number) ≡ true
    over (note.Tip s page) firm is =
        let both = both_pass (s == sequence) (option_map_or (has_outcome outcome) (state_in (copies page) place) false) is in
        over_by page
        (ap (tip_of seen) (sym (same_from_test s sequence both.0)) ∙ found (tip_of seen s) page (firm cut own))
        (copied (λ o. option_map_or (has_outcome outcome) (state_in o place) false) page refl both.1)
    over (note.Pointer r s page) firm is = absurd cc
    over (note.Counted s) firm is = absurd cc
    over (note.Over n o) firm is = absurd cc
    over (note.Named r s pointer page) firm is = absurd cc
    over (note.Ground r s page) firm is = absurd cc
    over (note.Stands r row page cell version) firm is = absurd cc
    over (note.Sees r row value) firm is = absurd cc

  pub pointed : (relation sequence pointer : ℕ) (n : Note) → NoteHolds shape file history owner n → says_pointer relation sequence pointer n ≡ true → names_pointer relation sequence pointer seen ≡ true
  pointed relation sequence pointer (note.Pointer r s page) firm is =
      let all = both_pass ((r == relation) && (s == sequence)) (page == pointer) is in
      let both = both_pass (r == relation) (s == sequence) all.0 in
      subst (λ k. names_pointer k sequence pointer seen ≡ true) (same_from_test r relation both.0)
      (subst (λ k. names_pointer r k pointer seen ≡ true) (same_from_test s sequence both.1)
      (subst (λ k. names_pointer r s k seen ≡ true) (same_from_test page pointer all.1) (firm cut own)))
  pointed relation sequence pointer (note.Tip s page) firm is = absurd cc
  pointed relation sequence pointer (note.Counted s) firm is = absurd cc
  pointed relation sequence pointer (note.Over n o) firm is = absurd cc
  pointed relation sequence pointer (note.Named r s p page) firm is = absurd cc
  pointed relation sequence pointer (note.Ground r s page) firm is = absurd cc
  pointed relation sequence pointer (note.Stands r row page cell version) firm is = absurd cc
  pointed relation sequence pointer (note.Sees r row value) firm is = absurd cc

  module _ (notes : List Note) (all : All (NoteHolds shape file history owner) notes) where
    -- What a note says of the view, where a test tells it.
    abbrev Says : Note → Type 0
    Says (note.Ground r s p) = Unit {0}
    Says n = passes shape n seen ≡ true

    shown : (n : Note) → may_note shape copies notes n ≡ true → Says n
    shown (note.Tip sequence page) is = copied (λ o. is_number (tip_in o sequence) page) 0 refl is
    shown (note.Pointer relation sequence page) is = copied (λ o. is_number (pointer_by o relation sequence) page) 0 refl is
    shown (note.Counted sequence) is =
        copied (λ o. is_some (option_and_then (λ (h : Header). if nat_lt sequence h.inventories then Some (inventory_page h.size sequence) else None) (header_in o))) 0 refl is
    shown (note.Over number outcome) is =
        from_some (NoteHolds shape file history owner) (shows_outcome copies (number / tip_numbers shape.size) (number % tip_numbers shape.size) outcome)
        (has_outcome outcome (state_of seen number) ≡ true) (over number outcome) notes all is
    shown (note.Named relation sequence pointer page) is =
        let both = both_pass (list_any (says_pointer relation (sequence / slots shape.size) pointer) notes) (is_number (named_in (copies pointer) (sequence % slots shape.size)) page) is in
        let header : names_pointer relation (sequence / slots shape.size) pointer seen ≡ true =
        from_some (NoteHolds shape file history owner) (says_pointer relation (sequence / slots shape.size) pointer)
        (names_pointer relation (sequence / slots shape.size) pointer seen ≡ true) (pointed relation (sequence / slots shape.size) pointer) notes all both.0 in
        let slot : is_number (named_in (seen pointer) (sequence % slots shape.size)) page ≡ true =
        copied (λ o. is_number (named_in o (sequence % slots shape.size)) page) pointer refl both.1 in
        rw (header, slot) refl
    shown (note.Ground relation sequence page) is = tt
    shown (note.Stands relation row page cell version) is = absurd cc
    shown (note.Sees relation row value) is = absurd cc

-- A note that names the page is one by which it is a ground.
by_name : (shape : Shape) (file : View) (history : History) → IsUpheld (scene_of shape file history) → (owner relation sequence page : ℕ) (t : Transaction) (n : Note)
    → NoteHolds shape file history owner n → says_named relation sequence page n ≡ true → IsGround shape file history owner relation sequence page t
by_name shape file history u owner relation sequence page t (note.Named r s pointer p) firm is =
    let all = both_pass ((r == relation) && (s == sequence)) (p == page) is in
    let both = both_pass (r == relation) (s == sequence) all.0 in
    subst (λ k. IsGround shape file history owner k sequence page t) (same_from_test r relation both.0)
    (subst (λ k. IsGround shape file history owner r k page t) (same_from_test s sequence both.1)
    (subst (λ k. IsGround shape file history owner r s k t) (same_from_test p page all.1) (named-ground shape file history u owner r s pointer p firm t)))
by_name shape file history u owner relation sequence page t (note.Tip s p) holds is = absurd cc
by_name shape file history u owner relation sequence page t (note.Pointer r s p) holds is = absurd cc
by_name shape file history u owner relation sequence page t (note.Counted s) holds is = absurd cc
by_name shape file history u owner relation sequence page t (note.Over n o) holds is = absurd cc
by_name shape file history u owner relation sequence page t (note.Ground r s p) holds is = absurd cc
by_name shape file history u owner relation sequence page t (note.Stands r row p cell version) holds is = absurd cc
by_name shape file history u owner relation sequence page t (note.Sees r row value) holds is = absurd cc

pub note-holds : (shape : Shape) (file : View) (history : History) → IsUpheld (scene_of shape file history) → (owner : ℕ) (notes : List Note) → All (NoteHolds shape file history owner) notes
    → (n : Note) → may_note shape ((world_of shape file history).copy owner) notes n ≡ true → NoteHolds shape file history owner n
note-holds shape file history u owner notes all (note.Tip sequence page) is = λ cut own. shown shape file history u owner cut own notes all (note.Tip sequence page) is
note-holds shape file history u owner notes all (note.Pointer relation sequence page) is = λ cut own. shown shape file history u owner cut own notes all (note.Pointer relation sequence page) is
note-holds shape file history u owner notes all (note.Counted sequence) is = λ cut own. shown shape file history u owner cut own notes all (note.Counted sequence) is
note-holds shape file history u owner notes all (note.Over number outcome) is = λ cut own. shown shape file history u owner cut own notes all (note.Over number outcome) is
note-holds shape file history u owner notes all (note.Named relation sequence pointer page) is = λ cut own. shown shape file history u owner cut own notes all (note.Named relation sequence pointer page) is
note-holds shape file history u owner notes all (note.Ground relation sequence page) is = go ((world_of shape file history).transaction owner) where
  go : (o : Option Transaction) → IfSome o (IsGround shape file history owner relation sequence page)
  go None = tt
  go (Some t) =
      from_some (NoteHolds shape file history owner) (says_named relation sequence page) (IsGround shape file history owner relation sequence page t)
      (by_name shape file history u owner relation sequence page t) notes all is
note-holds shape file history u owner notes all (note.Stands relation row page cell version) is = absurd cc
note-holds shape file history u owner notes all (note.Sees relation row value) is = absurd cc
