-- The views after an edit of one page, by the scenes before and after it.
use Rattle.std.specs.Prelude.{◌≡◌, ◌∷◌, ℕ, Bool, Some}
use Rattle.fbc_kinds.specs.declared.edits.Edit.{Edit}
use Rattle.fbc_kinds.specs.declared.pages.Page.{Page}
use Rattle.fbc_kinds.specs.View.{View}
use Rattle.fbc_legal.specs.Scene.{Scene, scene_of}
use Rattle.fbc_legal.specs.Stamps.{Stamps}
use Rattle.fbc_world.specs.declared.events.Act.TheVariants.{Local}
use Rattle.fbc_world.specs.declared.events.LocalEvent.TheVariants as local
use Rattle.fbc_world.specs.History.{happens}
use Rattle.fbc_world.specs.World.{page_after}
use Rattle.fbc_closed_cuts.specs.Cut.{Cut, IsClosedCut, view}
use Rattle.fbc_closed_cuts.specs.Views.{IsSameView, IsViewOfEdit, drafted_in, view_stamps}

-- The scene after an edit of one page.
abbrev pub after_edit : Scene → ℕ → ℕ → Edit → Bool → Scene
after_edit at owner page edit landed = scene_of at.shape at.file (happens owner (Local (local.Edit page edit)) landed ∷ at.past)

-- An edit fits and makes this content of its page, and the cut is closed after it.
pub record IsCutAfterEdit (at : Scene) (owner page : ℕ) (edit : Edit) (landed : Bool) (content : Page) (cut : Cut) : Type 0 where
  pub fits : page_after at.shape at.world owner page edit ≡ Some content
  pub closed : IsClosedCut (after_edit at owner page edit landed).world cut

-- What the file held before the edit with the drafts of the cut, as far as they stood, and the stamps of that.
abbrev pub view_before : Scene → Cut → View
view_before at cut = view at.world (drafted_in at.world cut)

abbrev pub stamps_before : Scene → Cut → ℕ → Stamps
stamps_before at cut = view_stamps at.world at.stamps (drafted_in at.world cut)

-- The cut's view of the later scene is that of the earlier cut before.
abbrev pub IsSameViewIn : Scene → Scene → Cut → Cut → Type 0
IsSameViewIn at later cut earlier = IsSameView at.world at.stamps later.world later.stamps cut earlier

-- The cut's view of the later scene is one before, but that the page has its new content.
abbrev pub IsViewOfEditIn : Scene → Scene → ℕ → Page → Cut → Type 0
IsViewOfEditIn at later page content cut = IsViewOfEdit at.world at.stamps later.world later.stamps page content cut
