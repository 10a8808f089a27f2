-- What a view shows that comes to hold an edited page: what is newest, what edits lean on, and what is committed.
use Rattle.std.proofs.Common.{◌≡◌, ◌≢◌, ◌∙◌, ◌<◌, ◌==◌, ◌⊎◌, inl, inr, ℕ, Bool, true, false, Option, Some, None, if◌then◌else◌, refl, sym, ap, subst, slice_get, arith}
use Rattle.std.specs.Prelude.{◌/◌, ◌%◌, option_and_then}
use Rattle.std.proofs.Math.Path.{fun_ext}
use Rattle.std.proofs.lemmas.Bool.Decides.{nat_tests}
use Rattle.fbc_kinds.specs.declared.pages.Cell.{Cell}
use Rattle.fbc_kinds.specs.declared.pages.Header.{Header}
use Rattle.fbc_kinds.specs.declared.pages.Page.{Page}
use Rattle.fbc_kinds.specs.declared.pages.Relation.{Relation}
use Rattle.fbc_kinds.specs.Limits.{slots}
use Rattle.fbc_kinds.specs.Reach.{DataRole, Reaches}
use Rattle.fbc_kinds.specs.Sound.{IsSound}
use Rattle.fbc_kinds.specs.View.{View, cell_at, header_in, next_of, pointer_of, slot_in, unless_zero}
use Rattle.fbc_page_edits.specs.Edited.{IsOfShape}
use Rattle.fbc_legal.specs.Facts.{Fact, HasNextAbove, NamesInSlot, NamesPointer}
use Rattle.fbc_legal.specs.Leans.{IsShown}
use Rattle.fbc_legal.specs.Scene.{Scene, HasDraft, IsBefore, newest_at}
use Rattle.fbc_legal.specs.Stamps.{Stamps, newest_stamps}
use Rattle.fbc_closed_cuts.specs.Cut.{view}
use Rattle.fbc_closed_cuts.specs.Owed.{IsSeenKept, IsSeenNewest, SeesEdit}
use Rattle.fbc_closed_cuts.specs.Upheld.{IsUpheld}
use Rattle.fbc_closed_cuts.specs.Views.{view_stamps}
use Rattle.fbc_numbers.specs.Numbers.{CommitsGrow, is_committed_in}
use Rattle.fbc_closed_cuts.proofs.LeansSeen.{lean-seen}
use Rattle.fbc_origins.proofs.PutPages.{every_draft, named-reached, newest-closed, newest-view}

module _ (at : Scene) (owner edited : ℕ) (seen : View) (stamps : ℕ → Stamps) (sees : SeesEdit at owner edited seen stamps) where
  -- The view and its stamps are those of the cut.
  pub one-view : view at.world sees.cut ≡ seen
  one-view = sym (fun_ext sees.pages)

  pub one-stamps : view_stamps at.world at.stamps sees.cut ≡ stamps
  one-stamps = sym (fun_ext sees.origins)

  -- A cell of the edited page stands as in the newest pages.
  pub stands-seen : (cell : ℕ) (version : Cell) → cell_at (newest_at at) edited cell ≡ Some version → cell_at seen edited cell ≡ Some version
  stands-seen cell version stands = rw sees.edited_page.page stands

  module _ (u : IsUpheld at) where
    pub seen-sound : IsSound seen
    seen-sound = subst IsSound one-view (u.sound sees.cut sees.closed)

    pub seen-shape : IsOfShape at.shape seen
    seen-shape = subst (IsOfShape at.shape) one-view (u.of_shape sees.cut sees.closed)

    -- A data page that is shown as named is reached.
    pub lean-reached : (relation sequence pointer page : ℕ) → page ≢ 0 → IsShown at owner edited pointer (NamesInSlot (sequence % slots at.shape.size) page) → IsShown at owner edited 0 (NamesPointer relation (sequence / slots at.shape.size) pointer)
        → Reaches seen (DataRole relation sequence) page
    lean-reached relation sequence pointer page some named pointed =
        let by_header = lean-seen at owner edited seen stamps sees (NamesPointer relation (sequence / slots at.shape.size) pointer) 0 pointed in
        let in_slot : slot_in (seen pointer) (sequence % slots at.shape.size) ≡ Some page = lean-seen at owner edited seen stamps sees (NamesInSlot (sequence % slots at.shape.size) page) pointer named in
        let other : unless_zero page ≡ Some page = not_zero (page == 0) refl in
        named-reached at.shape seen seen-shape seen-sound relation sequence pointer page (pointer_by by_header.0 by_header.1 by_header.2 by_header.3 by_header.4) (ap (option_and_then unless_zero) in_slot ∙ other)
      where
        not_zero : (b : Bool) → page == 0 ≡ b → (if b then None else Some page) ≡ Some page
        not_zero true is = absurd (some (grind (arith, nat_tests, is)))
        not_zero false is = refl

        pointer_by : (h : Header) (entry : Relation) → header_in (seen 0) ≡ Some h → slice_get h.relations relation ≡ Some entry → slice_get entry.pointers (sequence / slots at.shape.size) ≡ Some pointer
            → pointer_of seen relation (sequence / slots at.shape.size) ≡ Some pointer
        pointer_by h entry header found is = rw (header, found) is

  -- A number that was begun.
  pub begun-seen : (number : ℕ) → IsShown at owner edited 0 (HasNextAbove number) → number < next_of seen
  begun-seen number shown =
      let found = lean-seen at owner edited seen stamps sees (HasNextAbove number) 0 shown in
      above found.0 found.1 found.2
    where
      above : (h : Header) → header_in (seen 0) ≡ Some h → number < h.next → number < next_of seen
      above h is below = rw is below

  module _ (grow : CommitsGrow at.world) where
    -- What is committed in the file is committed in each view, and what is so there, in the newest pages.
    pub committed-seen : (number : ℕ) → is_committed_in at.world.kept number ≡ true → is_committed_in seen number ≡ true
    committed-seen number is =
        subst (λ (v : View). is_committed_in v number ≡ true) one-view
        (grow (λ p. false) sees.cut number (record { drafted = λ p its. absurd cc; closed = λ high low path there its. absurd cc }) sees.closed (λ p its. absurd cc) is)

    pub committed-newest : (number : ℕ) → is_committed_in seen number ≡ true → is_committed_in (newest_at at) number ≡ true
    committed-newest number is =
        subst (λ (v : View). is_committed_in v number ≡ true) (newest-view at.world)
        (grow sees.cut (every_draft at.world) number sees.closed (newest-closed at.world) sees.closed.drafted (subst (λ (v : View). is_committed_in v number ≡ true) (sym one-view) is))
