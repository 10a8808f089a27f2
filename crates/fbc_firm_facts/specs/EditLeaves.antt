-- When an edit leaves a fact.
use Rattle.std.specs.Prelude.{◌≡◌, ℕ, Bool, Some, true}
use Rattle.fbc_kinds.specs.declared.edits.Edit.{Edit}
use Rattle.fbc_kinds.specs.declared.pages.Page.{Page}
use Rattle.fbc_kinds.specs.declared.shapes.Shape.{Shape}
use Rattle.fbc_kinds.specs.View.{View}
use Rattle.fbc_page_edits.specs.Edited.{with_page}
use Rattle.fbc_world.specs.History.{History}
use Rattle.fbc_world.specs.World.{page_after, world_of}
use Rattle.fbc_legal.specs.Stamps.{Stamps, stamps_of}
use Rattle.fbc_closed_cuts.specs.Cut.{Cut, view}
use Rattle.fbc_closed_cuts.specs.Firm.{HasOwnDrafts}
use Rattle.fbc_closed_cuts.specs.Owed.{IsSeenEdit}
use Rattle.fbc_closed_cuts.specs.Views.{view_stamps}

-- The view of a cut after a history, and the stamps of its pages.
abbrev pub view_after : Shape → View → History → Cut → View
view_after shape file past cut = view (world_of shape file past) cut

abbrev pub stamps_after : Shape → View → History → Cut → ℕ → Stamps
stamps_after shape file past cut = view_stamps (world_of shape file past) (stamps_of shape file past) cut

-- The cut's view has all the owner's drafts, and sees an actor's edit of a page, which makes this content of it.
pub record IsOwnViewOfEdit (shape : Shape) (file : View) (past : History) (actor page : ℕ) (edit : Edit) (owner : ℕ) (content : Page) (cut : Cut) : Type 0 where
  pub fits : page_after shape (world_of shape file past) actor page edit ≡ Some content
  pub own : HasOwnDrafts (world_of shape file past) owner cut
  pub sees : IsSeenEdit shape file past actor page edit content (view_after shape file past cut) (stamps_after shape file past cut)

-- An actor's edit of a page leaves a test of views to an owner: a view that has all the owner's drafts, and sees the edit,
-- passes the test also with the page's new content.
abbrev pub EditLeaves : Shape → View → History → ℕ → ℕ → Edit → ℕ → (View → Bool) → Type 0
EditLeaves shape file past actor page edit owner passes =
    (content : Page) (cut : Cut)
    → IsOwnViewOfEdit shape file past actor page edit owner content cut
    → passes (view_after shape file past cut) ≡ true
    → passes (with_page (view_after shape file past cut) page content) ≡ true
