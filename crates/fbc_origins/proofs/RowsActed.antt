-- Rows that the file names are named, and those of open numbers are named or drafted, after every act that edits nothing.
use Rattle.std.proofs.Common.{◌≡◌, ◌≢◌, ◌⊎◌, ◌∷◌, ℕ, Bool, true, false, inl, inr, Some, refl, subst, arith}
use Rattle.fbc_kinds.specs.declared.pages.Cell.{Cell}
use Rattle.fbc_kinds.specs.declared.shapes.Shape.{Shape}
use Rattle.fbc_kinds.specs.declared.snapshots.Transaction.{Transaction}
use Rattle.fbc_kinds.specs.View.{View, cell_at, is_top}
use Rattle.fbc_page_edits.proofs.SameVersions.{top_holds}
use Rattle.fbc_world.specs.History.{History, Moment}
use Rattle.fbc_world.specs.World.{World, world_of}
use Rattle.fbc_legal.specs.Legal.{IsLegal}
use Rattle.fbc_legal.specs.Scene.{Scene, scene_of}
use Rattle.fbc_closed_cuts.specs.Cut.{Cut, IsClosedCut, view}
use Rattle.fbc_closed_cuts.specs.Upheld.{IsUpheld}
use Rattle.fbc_closed_cuts.specs.Views.{is_edit}
use Rattle.fbc_numbers.specs.Numbers.{is_committed_in}
use Rattle.fbc_numbers.proofs.OpensNotDead.{next_within}
use Rattle.fbc_origins.specs.Owed.{IsInOrder}
use Rattle.fbc_origins.proofs.PutPages.{named-reached}
use Rattle.fbc_origins.specs.Rows.{IsNamedOrDrafted, NamesRow, RowsStand}
use Rattle.fbc_origins.proofs.RowsCommitted.{IsOfWritten, of-written}
use Rattle.fbc_origins.proofs.RowsWritten.{earlier, kept-is, named-by, named-on, one-view, open-on, was-closed}
use Rattle.fbc_origins.proofs.WriteDrafts.{IsBegun, opens-came}

module _ (shape : Shape) (file : View) (before : History) (moment : Moment) (legal : IsLegal shape file (moment ∷ before)) (plain : is_edit moment.event.act ≡ false) (order : IsInOrder (scene_of shape file before)) (stand : RowsStand (scene_of shape file before)) where
  abbrev at : Scene
  at = scene_of shape file before

  abbrev w : World
  w = at.world

  abbrev after : World
  after = world_of shape file (moment ∷ before)

  abbrev was : Cut → Cut
  was cut = earlier shape file before moment legal plain cut

  module _ (cut : Cut) (closed : IsClosedCut after cut) (relation sequence pointer page cell : ℕ) (top : Cell) (row : NamesRow shape (view after cut) relation sequence pointer page) (stands : cell_at (view after cut) page cell ≡ Some top)
      (first : is_top top.flag ≡ true) where
    -- The row and its top in the view before.
    row-before : NamesRow shape (view w (was cut)) relation sequence pointer page
    row-before = subst (λ (v : View). NamesRow shape v relation sequence pointer page) (one-view shape file before moment legal plain cut closed) row

    top-before : cell_at (view w (was cut)) page cell ≡ Some top
    top-before = subst (λ (v : View). cell_at v page cell ≡ Some top) (one-view shape file before moment legal plain cut closed) stands

    closed-before : IsClosedCut w (was cut)
    closed-before = was-closed shape file before moment legal plain cut closed

    was-settled : (top.back_page ≢ 0) ⊎ (is_committed_in w.kept top.number ≡ true) → NamesRow shape after.kept relation sequence pointer page
    was-settled settled =
        named-on shape file before moment legal plain cut closed relation sequence pointer page row
        (stand.rows (was cut) relation sequence pointer page cell top closed-before row-before top-before (first, settled))

    now-settled : (top.back_page ≢ 0) ⊎ (is_committed_in after.kept top.number ≡ true) → NamesRow shape after.kept relation sequence pointer page
    now-settled (inl linked) = was-settled (inl linked)
    now-settled (inr committed) = go (is_committed_in w.kept top.number) refl where
      go : (b : Bool) → is_committed_in w.kept top.number ≡ b → NamesRow shape after.kept relation sequence pointer page
      go true is = was-settled (inr is)
      go false is =
          let o : IsOfWritten shape file before moment legal plain order top.number = of-written shape file before moment legal plain order top.number (subst (λ (v : View). is_committed_in v top.number ≡ true) (kept-is shape file before moment legal plain) committed) is in
          named-by shape file before moment legal plain cut closed relation sequence pointer page row o.owner o.all
          (stand.opens (was cut) relation sequence pointer page cell o.owner top o.t closed-before row-before top-before first o.open_is o.number_is)

    -- No view shows a number that begins.
    none-begins : (t : Transaction) → IsBegun at moment.event.actor t → top.number ≡ t.number → ⊥
    none-begins t begins own =
        let u : IsUpheld at = order.upheld in
        let below = (u.sound (was cut) closed-before).numbers relation sequence page cell top
        (named-reached shape (view w (was cut)) (u.of_shape (was cut) closed-before) (u.sound (was cut) closed-before) relation sequence pointer page row-before.pointed row-before.named)
        top-before (top_holds top.flag first) in
        absurd (grind (arith, below, next_within at u (was cut), begins.may.next, own))

    open-still : (owner : ℕ) (t : Transaction) → after.transaction owner ≡ Some t → top.number ≡ t.number → IsNamedOrDrafted (scene_of shape file (moment ∷ before)) owner relation sequence pointer page
    open-still owner t is own = go (opens-came at moment.event.actor moment.event.act moment.landed legal.1.alive legal.1.guard plain owner t is) where
      go : (w.transaction owner ≡ Some t) ⊎ IsBegun at moment.event.actor t → IsNamedOrDrafted (scene_of shape file (moment ∷ before)) owner relation sequence pointer page
      go (inl open_is) =
          open-on shape file before moment legal plain cut closed relation sequence pointer page row owner t is
          (stand.opens (was cut) relation sequence pointer page cell owner top t closed-before row-before top-before first open_is own)
      go (inr begins) = absurd (none-begins t begins own)

  pub rows-stand-acted : RowsStand (scene_of shape file (moment ∷ before))
  rows-stand-acted = record {
    rows = λ cut relation sequence pointer page cell top closed row stands settled. now-settled cut closed relation sequence pointer page cell top row stands settled.0 settled.1;
    opens = λ cut relation sequence pointer page cell owner top t closed row stands first is own. open-still cut closed relation sequence pointer page cell top row stands first owner t is own;
  }
