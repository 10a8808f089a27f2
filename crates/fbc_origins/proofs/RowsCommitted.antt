-- The owner of a number that comes to be committed in the file: all its drafts come into the file.
use Rattle.std.proofs.Common.{◌≡◌, ◌∙◌, ◌/◌, ◌∷◌, ℕ, Bool, true, false, Some, refl, sym, ap, subst}
use Rattle.fbc_kinds.specs.declared.shapes.Shape.{Shape}
use Rattle.fbc_kinds.specs.declared.snapshots.Transaction.{Transaction}
use Rattle.fbc_kinds.specs.Limits.{tip_numbers}
use Rattle.fbc_kinds.specs.View.{View, is_committed_state, tip_of}
use Rattle.fbc_page_edits.proofs.HeaderStands.{size_is}
use Rattle.fbc_world.specs.History.{History, Moment}
use Rattle.fbc_world.specs.World.{World}
use Rattle.fbc_legal.specs.Legal.{IsLegal}
use Rattle.fbc_legal.specs.Scene.{HasDraft, Scene, scene_of}
use Rattle.fbc_closed_cuts.specs.Cut.{view}
use Rattle.fbc_closed_cuts.specs.Upheld.{IsUpheld}
use Rattle.fbc_closed_cuts.specs.Views.{is_edit}
use Rattle.fbc_numbers.specs.Numbers.{IsMarkedBy, IsTrueMark, is_committed_in}
use Rattle.fbc_numbers.proofs.CommitsMarked.{kept-size, mark-on}
use Rattle.fbc_numbers.proofs.CutFacts.{clash, committed-newest}
use Rattle.fbc_numbers.proofs.NamedTips.{tip_seen}
use Rattle.fbc_numbers.proofs.StatesNamed.{same-named}
use Rattle.fbc_origins.specs.Owed.{IsInOrder}
use Rattle.fbc_origins.proofs.RowsWritten.{comes, comes-closed}

module _ (shape : Shape) (file : View) (before : History) (moment : Moment) (legal : IsLegal shape file (moment ∷ before)) (plain : is_edit moment.event.act ≡ false) (order : IsInOrder (scene_of shape file before)) where
  abbrev at : Scene
  at = scene_of shape file before

  abbrev w : World
  w = at.world

  -- The number was an open one, and no draft of its owner is left out.
  pub record IsOfWritten (number : ℕ) : Type 0 where
    pub owner : ℕ
    pub t : Transaction
    pub open_is : w.transaction owner ≡ Some t
    pub number_is : number ≡ t.number
    pub all : (page : ℕ) → HasDraft at owner page → comes shape file before moment legal plain page ≡ true

  module _ (number : ℕ) (now : is_committed_in (view w (comes shape file before moment legal plain)) number ≡ true) (none : is_committed_in w.kept number ≡ false) where
    abbrev brought : View
    brought = view w (comes shape file before moment legal plain)

    -- Where its mark is left out, the number is as it was in the file.
    mark-comes : (page : ℕ) → tip_of w.kept (number / tip_numbers shape.size) ≡ Some page → comes shape file before moment legal plain page ≡ true
    mark-comes page named = go (comes shape file before moment legal plain page) refl where
      go : (b : Bool) → comes shape file before moment legal plain page ≡ b → b ≡ true
      go true is = refl
      go false is =
          let u : IsUpheld at = order.upheld in
          let left : brought page ≡ w.kept page = rw is refl in
          let size = size_is shape brought (u.of_shape (comes shape file before moment legal plain) (comes-closed shape file before moment legal plain)) (u.sound (comes shape file before moment legal plain) (comes-closed shape file before moment legal plain)) in
          let state = same-named brought w.kept shape.size number page size (kept-size at u) (tip_seen w u.headers (comes shape file before moment legal plain) (number / tip_numbers shape.size) page named) named left in
          absurd (clash _ (ap is_committed_state (sym state) ∙ now) none)

    by : (owner : ℕ) → IsMarkedBy w owner number → IsOfWritten number
    by owner m =
        let on = mark-on w owner (w.marked owner) refl m.marked (order.upheld.marks owner) in
        let is : IsTrueMark shape w owner on.0 m.t = order.numbered.true_marks owner on.0 m.t on.1.marked m.open_is in
        let named : tip_of w.kept (number / tip_numbers shape.size) ≡ Some on.0 = subst (λ n. tip_of w.kept (n / tip_numbers shape.size) ≡ Some on.0) m.number_is is.named in
        record {
          owner = owner;
          t = m.t;
          open_is = m.open_is;
          number_is = sym m.number_is;
          all = λ page its. subst (λ p. comes shape file before moment legal plain p ≡ true) (sym (is.only page its)) (mark-comes on.0 named);
        }

    pub of-written : IsOfWritten number
    of-written =
        let newest = committed-newest w order.numbered.grow number (comes shape file before moment legal plain) (comes-closed shape file before moment legal plain) now in
        let marked = order.numbered.marked number newest none in
        by marked.0 marked.1
