-- An edit as one view sees it, and what is owed of edits.
use Rattle.std.specs.Prelude.{◌≡◌, ◌≢◌, ◌⊎◌, ℕ, Option}
use Rattle.fbc_kinds.specs.declared.edits.Edit.{Edit}
use Rattle.fbc_kinds.specs.declared.pages.Page.{Page}
use Rattle.fbc_kinds.specs.declared.shapes.Shape.{Shape}
use Rattle.fbc_kinds.specs.Reach.{ReachesPage}
use Rattle.fbc_kinds.specs.Sound.{IsSound}
use Rattle.fbc_kinds.specs.View.{View}
use Rattle.fbc_page_edits.specs.Allowed.{Fits}
use Rattle.fbc_page_edits.specs.Edited.{IsOfShape, with_page}
use Rattle.fbc_world.specs.History.{History}
use Rattle.fbc_legal.specs.Guards.{GuardOfEdit}
use Rattle.fbc_legal.specs.Leans.{IsNamedNowhere}
use Rattle.fbc_legal.specs.Rows.{IsNoInventory}
use Rattle.fbc_legal.specs.Scene.{Scene, HasDraft, IsBefore, newest_at, scene_of}
use Rattle.fbc_legal.specs.Stamps.{Stamps, newest_stamps}
use Rattle.fbc_closed_cuts.specs.Cut.{Cut, IsClosedCut, view}
use Rattle.fbc_closed_cuts.specs.Views.{view_stamps}

-- A view shows a page as the newest pages do, or as the file keeps it.
pub record IsSeenNewest (at : Scene) (other : ℕ) (seen : Option Page) (origin : Stamps) : Type 0 where
  pub page : seen ≡ newest_at at other
  pub stamps : origin ≡ newest_stamps at.world at.stamps other

pub record IsSeenKept (at : Scene) (other : ℕ) (seen : Option Page) (origin : Stamps) : Type 0 where
  pub page : seen ≡ at.world.kept other
  pub stamps : origin ≡ at.stamps.kept other

-- A view that comes to hold an edited page is one of a closed cut. It shows the page as the newest pages do, and likewise the
-- owner's drafts that are to be written before it. It shows every other page so, or as the file keeps it, and reaches no page
-- that is named nowhere.
pub record SeesEdit (at : Scene) (owner edited : ℕ) (seen : View) (stamps : ℕ → Stamps) : Type 0 where
  pub cut : Cut
  pub closed : IsClosedCut at.world cut
  pub pages : (other : ℕ) → seen other ≡ view at.world cut other
  pub origins : (other : ℕ) → stamps other ≡ view_stamps at.world at.stamps cut other
  pub edited_page : IsSeenNewest at edited (seen edited) (stamps edited)
  pub before : (other : ℕ) → HasDraft at owner other → IsBefore at other edited → IsSeenNewest at other (seen other) (stamps other)
  pub each : (other : ℕ) → IsSeenNewest at other (seen other) (stamps other) ⊎ IsSeenKept at other (seen other) (stamps other)
  pub unreached : (other : ℕ) → IsNamedNowhere at owner edited other → other ≢ 0 → IsNoInventory at other → ¬ ReachesPage seen other

-- After a history an owner's edit may come. The view is a sound one of its file's shape, and sees the edit, which makes this content
-- of the page.
pub record IsSeenEdit (shape : Shape) (file : View) (past : History) (owner page : ℕ) (edit : Edit) (content : Page) (seen : View) (stamps : ℕ → Stamps) : Type 0 where
  pub guard : GuardOfEdit (scene_of shape file past) owner page edit
  pub sees : SeesEdit (scene_of shape file past) owner page seen stamps
  pub of_shape : IsOfShape shape seen
  pub fits : Fits shape edit (seen page) content
  pub sound : IsSound seen

-- What is owed of an edit after a history: it leaves each view that sees it sound.
abbrev pub KeepsViewsSound : Shape → View → History → Edit → Type 0
KeepsViewsSound shape file past edit =
    (owner page : ℕ) (content : Page) (seen : View) (stamps : ℕ → Stamps)
    → IsSeenEdit shape file past owner page edit content seen stamps
    → IsSound (with_page seen page content)
