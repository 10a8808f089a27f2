-- Every edit upholds what is upheld, where what is owed of it is given.
use Rattle.std.proofs.Common.{◌≡◌, ℕ, Bool, true, false, ◌∷◌, Option, Some, None, refl, sym, subst}
use Rattle.std.proofs.Math.Path.{fun_ext}
use Rattle.fbc_kinds.specs.declared.edits.Edit.{Edit}
use Rattle.fbc_kinds.specs.declared.edits.Edit.TheVariants as edit
use Rattle.fbc_kinds.specs.declared.pages.Page.{Page}
use Rattle.fbc_kinds.specs.declared.shapes.Shape.{Shape}
use Rattle.fbc_kinds.specs.Sound.{IsSound}
use Rattle.fbc_kinds.specs.View.{View}
use Rattle.fbc_levels.specs.declared.levels.Level.TheVariants.{Ex}
use Rattle.fbc_page_edits.specs.Allowed.{Fits}
use Rattle.fbc_page_edits.specs.Edited.{IsOfShape, with_page}
use Rattle.fbc_page_edits.proofs.ShapeKept.{shape-kept}
use Rattle.fbc_world.specs.declared.events.Act.TheVariants.{Local}
use Rattle.fbc_world.specs.declared.events.LocalEvent.TheVariants as local
use Rattle.fbc_world.specs.History.{History, Moment, happens}
use Rattle.fbc_levels.specs.Resources.{page_resource}
use Rattle.fbc_world.specs.PageCell.{edited, page_for}
use Rattle.fbc_world.specs.World.{World, newest_of, page_after, world_of}
use Rattle.fbc_legal.specs.Guards.{GuardOfEdit}
use Rattle.fbc_legal.specs.Legal.{IsLegal}
use Rattle.fbc_legal.specs.Scene.{scene_of}
use Rattle.fbc_legal.specs.Stamps.{PageStamps, Stamps, stamps_of}
use Rattle.fbc_legal.proofs.HeaderGrowth.{exclusive-own, newest-own}
use Rattle.fbc_legal.proofs.Induction.{IsCoherent-legal}
use Rattle.fbc_closed_cuts.specs.Cut.{Cut, IsClosedCut, view}
use Rattle.fbc_closed_cuts.specs.Owed.{KeepsViewsSound, SeesEdit}
use Rattle.fbc_closed_cuts.specs.Upheld.{IsUpheld}
use Rattle.fbc_closed_cuts.specs.Views.{IsSameView, IsViewOfEdit, drafted_in, view_stamps}
use Rattle.fbc_closed_cuts.proofs.CutLaws.{edit-sees, edit-spares, edit-views}
use Rattle.fbc_closed_cuts.proofs.HeadersGrow.{headers-grow}
use Rattle.fbc_closed_cuts.proofs.MarksKept.{marks-acted}

-- The newest content is what an edit of its owner begins with.
pub fits_of : (shape : Shape) (e : Edit) (old : Option Page) (content : Page) → edited shape e old ≡ Some content → Fits shape e old content
fits_of shape (edit.Format k p r s) (Some before) content is = is
fits_of shape (edit.Format k p r s) None content is = is
fits_of shape (edit.SetNext next) (Some before) content is = is
fits_of shape (edit.AddTip page) (Some before) content is = is
fits_of shape (edit.AddPointer relation page) (Some before) content is = is
fits_of shape edit.AddInventory (Some before) content is = is
fits_of shape (edit.TakePage page) (Some before) content is = is
fits_of shape (edit.FreePage page) (Some before) content is = is
fits_of shape (edit.Mark number state) (Some before) content is = is
fits_of shape (edit.Name slot page) (Some before) content is = is
fits_of shape (edit.Unname slot) (Some before) content is = is
fits_of shape (edit.PutCell cell new) (Some before) content is = is
fits_of shape (edit.ClearCell cell) (Some before) content is = is
fits_of shape _ None content is = absurd cc

pub newest_fits : (shape : Shape) (file : View) (before : History) (owner page : ℕ) (e : Edit) (content : Page) → IsLegal shape file before
    → (world_of shape file before).granted owner (page_resource page) ≡ Ex → page_after shape (world_of shape file before) owner page e ≡ Some content
    → Fits shape e (newest_of (world_of shape file before) page) content
newest_fits shape file before owner page e content legal exclusive is =
    let w : World = world_of shape file before in
    let own : newest_of w page ≡ page_for owner (w.kept page) (w.draft page) = newest-own owner (w.kept page) (w.draft page) (exclusive-own w (IsCoherent-legal shape file before legal) owner page exclusive) in
    fits_of shape e (newest_of w page) content (rw own is)

module _ (shape : Shape) (file : View) (before : History) (owner page : ℕ) (e : Edit) (landed : Bool) (legal : IsLegal shape file (happens owner (Local (local.Edit page e)) landed ∷ before)) (u : IsUpheld (scene_of shape file before))
    (owed : KeepsViewsSound shape file before e) (content : Page) (is : page_after shape (world_of shape file before) owner page e ≡ Some content) where
  abbrev w : World
  w = world_of shape file before

  abbrev s : PageStamps
  s = stamps_of shape file before

  abbrev edits : Moment
  edits = happens owner (Local (local.Edit page e)) landed

  abbrev after : World
  after = world_of shape file (edits ∷ before)

  g : GuardOfEdit (scene_of shape file before) owner page e
  g = legal.1.guard

  module _ (cut : Cut) (closed : IsClosedCut after cut) where
    abbrev seen : View
    seen = view w (drafted_in w cut)

    abbrev seen_stamps : ℕ → Stamps
    seen_stamps = view_stamps w s (drafted_in w cut)

    -- A view without the page.
    module _ (out : cut page ≡ false) where
      spared : IsSameView w s after (stamps_of shape file (edits ∷ before)) cut (drafted_in w cut)
      spared = edit-spares shape file before owner page e landed content cut is closed out

      same_view : seen ≡ view after cut
      same_view = sym (fun_ext (λ p. spared.pages p))

      pub shape-without : IsOfShape shape (view after cut)
      shape-without = subst (IsOfShape shape) same_view (u.of_shape (drafted_in w cut) spared.closed)

      pub sound-without : IsSound (view after cut)
      sound-without = subst IsSound same_view (u.sound (drafted_in w cut) spared.closed)

    -- A view with the page.
    module _ (in_cut : cut page ≡ true) where
      changed : IsViewOfEdit w s after (stamps_of shape file (edits ∷ before)) page content cut
      changed = edit-views shape file before owner page e landed content cut is closed in_cut

      sees : SeesEdit (scene_of shape file before) owner page seen seen_stamps
      sees = edit-sees shape file before owner page e landed content cut is legal.0 closed in_cut

      of_shape : IsOfShape shape seen
      of_shape = u.of_shape (drafted_in w cut) changed.closed

      fits : Fits shape e (seen page) content
      fits = rw changed.was (newest_fits shape file before owner page e content legal.0 g.exclusive is)

      sound_now : IsSound (with_page seen page content)
      sound_now =
          owed owner page content seen seen_stamps (record {
            guard = g;
            sees = sees;
            of_shape = of_shape;
            fits = fits;
            sound = u.sound (drafted_in w cut) changed.closed;
          })

      one_view : with_page seen page content ≡ view after cut
      one_view = sym (fun_ext (λ p. changed.pages p))

      pub shape-with : IsOfShape shape (view after cut)
      shape-with = subst (IsOfShape shape) one_view (shape-kept shape seen page e content of_shape g.numbers fits)

      pub sound-with : IsSound (view after cut)
      sound-with = subst IsSound one_view sound_now

  shape-in : (cut : Cut) → IsClosedCut after cut → IsOfShape shape (view after cut)
  shape-in cut closed = go (cut page) refl where
    go : (b : Bool) → cut page ≡ b → IsOfShape shape (view after cut)
    go true at = shape-with cut closed at
    go false at = shape-without cut closed at

  sound-in : (cut : Cut) → IsClosedCut after cut → IsSound (view after cut)
  sound-in cut closed = go (cut page) refl where
    go : (b : Bool) → cut page ≡ b → IsSound (view after cut)
    go true at = sound-with cut closed at
    go false at = sound-without cut closed at

  pub edits-uphold : IsUpheld (scene_of shape file (edits ∷ before))
  edits-uphold = record {
    coherent = IsCoherent-legal shape file (edits ∷ before) legal;
    headers = headers-grow shape file (edits ∷ before) legal;
    marks = marks-acted (scene_of shape file before) u.coherent u.marks owner (Local (local.Edit page e)) landed g;
    of_shape = shape-in;
    sound = sound-in;
  }
