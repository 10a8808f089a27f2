-- What the newest pages link they link after a page is made that is named nowhere.
use Rattle.std.proofs.Common.{◌≡◌, ◌==◌, ◌&&◌, ℕ, Bool, true, false, ◌∷◌, Option, Some, None, is_some, if◌then◌else◌, refl, subst, arith}
use Rattle.std.proofs.Math.Path.{fun_ext}
use Rattle.std.proofs.lemmas.Bool.Decides.{nat_tests}
use Rattle.fbc_kinds.specs.declared.edits.Edit.{Edit}
use Rattle.fbc_kinds.specs.declared.pages.Page.{Page}
use Rattle.fbc_kinds.specs.declared.shapes.Shape.{Shape}
use Rattle.fbc_kinds.specs.Reach.{ReachesPage}
use Rattle.fbc_kinds.specs.View.{View}
use Rattle.fbc_page_edits.specs.Edited.{with_page}
use Rattle.fbc_page_edits.specs.Facing.{IsLinked}
use Rattle.fbc_page_edits.proofs.OffReach.{agreed_versions, off_reach_agree}
use Rattle.fbc_world.specs.declared.drafts.Draft.{Draft}
use Rattle.fbc_world.specs.declared.events.Act.TheVariants.{Local}
use Rattle.fbc_world.specs.declared.events.LocalEvent.TheVariants as local
use Rattle.fbc_world.specs.History.{History, happens}
use Rattle.fbc_world.specs.PageCell.{drafted, newest_in}
use Rattle.fbc_world.specs.World.{World, page_after, world_of}
use Rattle.fbc_legal.specs.Leans.{FormatLeans}
use Rattle.fbc_legal.specs.Legal.{IsLegal}
use Rattle.fbc_legal.specs.Rows.{IsFormat}
use Rattle.fbc_legal.specs.Scene.{Scene, newest_at, scene_of}
use Rattle.fbc_closed_cuts.specs.Cut.{view}
use Rattle.fbc_closed_cuts.specs.Upheld.{IsUpheld}
use Rattle.fbc_closed_cuts.specs.Views.{drafted_in}
use Rattle.fbc_origins.proofs.PutPages.{every_draft, newest-closed, newest-sound}
use Rattle.fbc_origins.proofs.ViewsNext.{edited-view}
use Rattle.fbc_origins.proofs.OthersKeep.{linked-on}

-- A page that is edited has a draft.
drafted_now : (owner : ℕ) (draft : Option Draft) (content : Page) (found : Option Page) → found ≡ Some content → (b : Bool) → b ≡ true → is_some (if b then drafted owner draft found else draft) ≡ true
drafted_now owner draft content found is true sure = rw is refl
drafted_now owner draft content found is false sure = cc

-- All drafts from before show the newest pages from before.
all_before : (owner : ℕ) (kept : Option Page) (draft : Option Draft) (content : Page) (found : Option Page) → found ≡ Some content → (b : Bool)
    → (if is_some (if b then drafted owner draft found else draft) && is_some draft then newest_in kept draft else kept) ≡ newest_in kept draft
all_before owner kept None content found is true = rw is refl
all_before owner kept None content found is false = refl
all_before owner kept (Some draft) content found is true = rw is refl
all_before owner kept (Some draft) content found is false = refl

module _ (shape : Shape) (file : View) (before : History) (owner page : ℕ) (e : Edit) (landed : Bool) (legal : IsLegal shape file (happens owner (Local (local.Edit page e)) landed ∷ before))
    (content : Page) (is : page_after shape (world_of shape file before) owner page e ≡ Some content) where
  abbrev at : Scene
  at = scene_of shape file before

  abbrev after : World
  after = world_of shape file (happens owner (Local (local.Edit page e)) landed ∷ before)

  in_cut : every_draft after page ≡ true
  in_cut = drafted_now owner (at.world.draft page) content (page_after shape at.world owner page e) is (page == page) (grind (arith, nat_tests))

  newest_before : view at.world (drafted_in at.world (every_draft after)) ≡ newest_at at
  newest_before = fun_ext (λ p. all_before owner (at.world.kept p) (at.world.draft p) content (page_after shape at.world owner page e) is (p == page))

  unreached : (page_kind : ℕ) → FormatLeans at owner page page_kind → IsFormat at owner page page_kind → ¬ ReachesPage (newest_at at) page
  unreached page_kind leans row =
      subst (λ (v : View). ¬ ReachesPage v page) newest_before
      ((edited-view shape file before (λ seen stamps. Unit {0}) owner page e landed legal content is (every_draft after) (newest-closed after) in_cut).sees.unreached page leans.nowhere row.no_header row.no_inventory)

  pub format-link : IsUpheld at → (page_kind : ℕ) → FormatLeans at owner page page_kind → IsFormat at owner page page_kind → (back_page back_cell : ℕ) → IsLinked (newest_at at) back_page back_cell
      → IsLinked (with_page (newest_at at) page content) back_page back_cell
  format-link u page_kind leans row back_page back_cell linked =
      linked-on (newest_at at) (with_page (newest_at at) page content) (newest-sound at u)
      (agreed_versions (newest_at at) (with_page (newest_at at) page content) (off_reach_agree (newest_at at) page content (unreached page_kind leans row))).kept
      back_page back_cell linked
