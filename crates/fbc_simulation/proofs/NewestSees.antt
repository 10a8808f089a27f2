-- The newest pages see every edit, with every open transaction going on.
use Rattle.std.proofs.Common.{◌≡◌, inl, ℕ, Bool, true, false, List, Some, is_some, if◌then◌else◌, refl, sym, ap, subst}
use Rattle.fbc_kinds.specs.declared.edits.Edit.{Edit}
use Rattle.fbc_kinds.specs.declared.edits.Edit.TheVariants.{PutCell}
use Rattle.fbc_kinds.specs.declared.pages.Cell.{Cell}
use Rattle.fbc_kinds.specs.declared.pages.Page.{Page}
use Rattle.fbc_kinds.specs.declared.shapes.Shape.{Shape}
use Rattle.fbc_kinds.specs.declared.snapshots.Transaction.{Transaction}
use Rattle.fbc_kinds.specs.View.{View}
use Rattle.fbc_page_edits.specs.Allowed.{Fits}
use Rattle.fbc_world.specs.History.{History}
use Rattle.fbc_world.specs.World.{World, page_after, world_of}
use Rattle.fbc_legal.specs.Guards.{GuardOfEdit}
use Rattle.fbc_legal.specs.Scene.{Scene, scene_of}
use Rattle.fbc_legal.specs.Stamps.{Stamps, newest_stamps}
use Rattle.fbc_closed_cuts.specs.Cut.{view}
use Rattle.fbc_closed_cuts.specs.Owed.{IsSeenEdit, IsSeenNewest, SeesEdit}
use Rattle.fbc_closed_cuts.specs.Views.{view_stamps}
use Rattle.fbc_closed_cuts.proofs.LeanViews.{TakesBefore}
use Rattle.fbc_closed_cuts.proofs.Unnamed.{unreached-view}
use Rattle.fbc_numbers.proofs.CutFacts.{all-closed, all-view}
use Rattle.fbc_origins.proofs.NewestFits.{newest-fits}
use Rattle.fbc_soundness.specs.Whole.{IsWhole}
use Rattle.fbc_simulation.specs.Beside.{AreOpenIn}
use Rattle.fbc_simulation.specs.EditIn.{IsEditIn}
use Rattle.fbc_simulation.specs.Newest.{all_drafts}
use Rattle.fbc_simulation.specs.Simulated.{IsSimulated}

module _ (shape : Shape) (file : View) (past : History) (whole : IsWhole (scene_of shape file past)) (owner page : ℕ) (e : Edit)
    (g : GuardOfEdit (scene_of shape file past) owner page e) where
  abbrev at : Scene
  at = scene_of shape file past

  abbrev w : World
  w = at.world

  abbrev pub newest_seen : View
  newest_seen = view w (all_drafts w)

  abbrev pub newest_origin : ℕ → Stamps
  newest_origin = view_stamps w at.stamps (all_drafts w)

  -- Every page is the newest.
  stamps_are : (other : ℕ) → newest_origin other ≡ newest_stamps w at.stamps other
  stamps_are other = go (is_some (w.draft other)) (at.stamps.draft other) (at.stamps.kept other) where
    go : (b : Bool) (x y : Stamps) → (if b then (if b then x else y) else y) ≡ (if b then x else y)
    go true x y = refl
    go false x y = refl

  shows : (other : ℕ) → IsSeenNewest at other (newest_seen other) (newest_origin other)
  shows other = record { page = ap (λ (v : View). v other) (all-view w); stamps = stamps_are other }

  -- A cut with every page.
  takes_all : TakesBefore at owner page (λ other. true)
  takes_all = record { edited_in = refl; before_in = λ other own path. refl }

  pub newest-sees : SeesEdit at owner page newest_seen newest_origin
  newest-sees = record {
    cut = all_drafts w;
    closed = all-closed w;
    pages = λ other. refl;
    origins = λ other. refl;
    edited_page = shows page;
    before = λ other own path. shows other;
    each = λ other. inl (shows other);
    unreached = λ other nowhere apart none. unreached-view at whole.order.upheld.coherent owner page (λ any. true) takes_all (all-closed w) whole.order.upheld.headers other nowhere apart none;
  }

  module _ (made : Page) (fits : page_after shape w owner page e ≡ Some made) where
    pub newest-seen-edit : IsSeenEdit shape file past owner page e made newest_seen newest_origin
    newest-seen-edit = record {
      guard = g;
      sees = newest-sees;
      of_shape = whole.order.upheld.of_shape (all_drafts w) (all-closed w);
      fits = subst (λ (v : View). Fits shape e (v page) made) (sym (all-view w)) (newest-fits at whole.order.upheld.coherent owner page e made g fits);
      sound = whole.order.upheld.sound (all_drafts w) (all-closed w);
    }

-- A version that is put.
pub newest-put-in : (shape : Shape) (file : View) (past : History) (owner page cell : ℕ) (new : Cell) (made : Page) (living : List Transaction) → AreOpenIn (world_of shape file past) (all_drafts (world_of shape file past)) living → IsWhole (scene_of shape file past) → IsSimulated (scene_of shape file past)
    → GuardOfEdit (scene_of shape file past) owner page (PutCell cell new) → page_after shape (world_of shape file past) owner page (PutCell cell new) ≡ Some made
    → IsEditIn shape file past owner page (PutCell cell new) made (all_drafts (world_of shape file past)) living
newest-put-in shape file past owner page cell new made living opens whole simulated g fits = record {
  whole = whole;
  simulated = simulated;
  made = fits;
  closed = all-closed (world_of shape file past);
  sees = newest-seen-edit shape file past whole owner page (PutCell cell new) g made fits;
  drafted = λ there. there;
  opens = opens;
  goes_on = λ t lives own. refl;
}
