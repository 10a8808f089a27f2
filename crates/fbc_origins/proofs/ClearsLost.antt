-- What a clearing makes unreached in the newest pages it makes unreached in each view that sees it.
use Rattle.std.proofs.Common.{◌≡◌, ◌∙◌, ◌==◌, inr, ℕ, true, Option, Some, None, refl, ap}
use Rattle.fbc_kinds.specs.declared.edits.Edit.TheVariants.{ClearCell}
use Rattle.fbc_kinds.specs.declared.pages.Cell.{Cell}
use Rattle.fbc_kinds.specs.declared.pages.Data.{Data}
use Rattle.fbc_kinds.specs.declared.pages.Flag.TheVariants as flag
use Rattle.fbc_kinds.specs.declared.pages.Page.{Page}
use Rattle.fbc_kinds.specs.declared.pages.Page.TheVariants as kind
use Rattle.fbc_kinds.specs.DataSpelling.{empty_cell}
use Rattle.fbc_kinds.specs.Reach.{DataRole, Reaches, top}
use Rattle.fbc_kinds.specs.Sound.{IsSound}
use Rattle.fbc_kinds.specs.View.{View, cell_at, is_back, is_top}
use Rattle.fbc_kinds.proofs.Tests.{test_of_same}
use Rattle.fbc_page_edits.specs.Alike.{HasNoMoreLinks}
use Rattle.fbc_page_edits.specs.Allowed.{Fits}
use Rattle.fbc_page_edits.specs.Edited.{with_page}
use Rattle.fbc_page_edits.specs.Facing.{IsLinked}
use Rattle.fbc_world.specs.World.{page_after}
use Rattle.fbc_legal.specs.Guards.{GuardOfEdit}
use Rattle.fbc_legal.specs.Naming.{IsNamedData, IsNamedFor}
use Rattle.fbc_legal.specs.Rows.{IsClearing}
use Rattle.fbc_legal.specs.Scene.{Scene, newest_at}
use Rattle.fbc_legal.specs.Stamps.{Stamps}
use Rattle.fbc_closed_cuts.specs.Cut.{Cut, IsClosedCut, view}
use Rattle.fbc_closed_cuts.specs.Owed.{SeesEdit}
use Rattle.fbc_closed_cuts.specs.Upheld.{IsUpheld}
use Rattle.fbc_closed_cuts.specs.Views.{view_stamps}
use Rattle.fbc_numbers.specs.Numbers.{is_committed_in}
use Rattle.fbc_version_edits.specs.Puts.{IsClearIn}
use Rattle.fbc_version_edits.proofs.Flags.{back_of_top, top_of_back, unlinked, unreached}
use Rattle.fbc_version_edits.proofs.NoLinkForms.{no_link_clear}
use Rattle.fbc_version_edits.proofs.NoNewLinks.{names_none, no_more_links}
use Rattle.fbc_version_edits.proofs.OneCell.{IsOneCell, one_cell_cleared}
use Rattle.fbc_origins.specs.Origins.{IsOriginal}
use Rattle.fbc_origins.proofs.NewestFits.{newest-fits}
use Rattle.fbc_origins.proofs.PutPages.{named-reached, newest-shape, newest-sound}
use Rattle.fbc_origins.proofs.Seeing.{stands-seen}
use Rattle.fbc_origins.specs.Rows.{SettledRowsAreNamed}
use Rattle.fbc_origins.proofs.GoneBelow.{gone-below}
use Rattle.fbc_origins.proofs.LostLinks.{IsReachedThrough, lost-below}
use Rattle.fbc_origins.proofs.PutsLost.{leads-head}
use Rattle.fbc_origins.proofs.SharedChains.{IsSharedCell, one-stamp, shared-leads}

-- A cell of a data page is cleared, and the page is named.
pub record IsClearPage (at : Scene) (owner page cell : ℕ) (made : Page) : Type 0 where
  pub data_page : Data
  pub stands : newest_at at page ≡ Some (kind.Data data_page)
  pub named : IsNamedData at owner page data_page.relation data_page.sequence
  pub fits : Fits at.shape (ClearCell cell) (Some (kind.Data data_page)) made

pub clear-page : (at : Scene) (owner page cell : ℕ) (made : Page) → IsUpheld at → GuardOfEdit at owner page (ClearCell cell) → page_after at.shape at.world owner page (ClearCell cell) ≡ Some made
    → IsClearPage at owner page cell made
clear-page at owner page cell made u g is = go (newest_at at page) refl g.named (newest-fits at u.coherent owner page (ClearCell cell) made g is) where
  go : (found : Option Page) → newest_at at page ≡ found → IsNamedFor at owner page found → Fits at.shape (ClearCell cell) found made → IsClearPage at owner page cell made
  go (Some (kind.Data d)) stands named fits = record { data_page = d; stands = stands; named = named; fits = fits }
  go None stands named fits = absurd fits
  go (Some _) stands named fits = cc

module _ (at : Scene) (u : IsUpheld at) (origin : IsOriginal at) (named : SettledRowsAreNamed at)
    (owner page cell : ℕ) (g : GuardOfEdit at owner page (ClearCell cell)) (made : Page) (is : page_after at.shape at.world owner page (ClearCell cell) ≡ Some made)
    (cut : Cut) (closed : IsClosedCut at.world cut) (sees : SeesEdit at owner page (view at.world cut) (view_stamps at.world at.stamps cut)) where
  abbrev p : IsClearPage at owner page cell made
  p = clear-page at owner page cell made u g is

  abbrev newest : View
  newest = newest_at at

  abbrev seen : View
  seen = view at.world cut

  abbrev seen_now : View
  seen_now = with_page seen page made

  sound : IsSound newest
  sound = newest-sound at u

  pub clear-newest : IsClearIn at.shape newest page cell made
  clear-newest = record { of_shape = newest-shape at u; sound = sound; page = p.data_page; stands = p.stands; fits = p.fits }

  pub clear-seen : IsClearIn at.shape seen page cell made
  clear-seen = record { of_shape = u.of_shape cut closed; sound = u.sound cut closed; page = p.data_page; stands = sees.edited_page.page ∙ p.stands; fits = p.fits }

  reached_page : Reaches newest (DataRole p.data_page.relation p.data_page.sequence) page
  reached_page = named-reached at.shape newest (newest-shape at u) sound p.data_page.relation p.data_page.sequence p.named.pointer page p.named.pointed p.named.named

  module _ (back_page back_cell : ℕ) (linked : IsLinked newest back_page back_cell) (lost : ¬ IsLinked (with_page newest page made) back_page back_cell) (old : Cell) (stands : cell_at newest page cell ≡ Some old) where
    one : IsOneCell newest (with_page newest page made) page cell old empty_cell
    one = one_cell_cleared clear-newest stands

    way : IsReachedThrough one back_page back_cell
    way = lost-below one back_page back_cell linked lost

    -- Nothing was reached through a version that names none.
    lone-loses : (old.back_page == 0) ≡ true → ⊥
    lone-loses none = let some = leads-head newest page cell back_page back_cell old way.leads stands in cc

    -- Nor through a back value that is not reached.
    value-loses : is_back old.flag ≡ true → ¬ IsLinked newest page cell → ⊥
    value-loses back none = unreached sound way.relation page cell old stands (top_of_back old.flag back) none way.reached

    -- A deletion is cleared that is committed.
    module _ (deletion : old.flag ≡ flag.Deletion) (committed : is_committed_in at.world.kept old.number ≡ true) where
      first : is_top old.flag ≡ true
      first = ap is_top deletion

      stands_there : cell_at seen page cell ≡ Some old
      stands_there = stands-seen at owner page seen (view_stamps at.world at.stamps cut) sees cell old stands

      one_seen : IsOneCell seen seen_now page cell old empty_cell
      one_seen = one_cell_cleared clear-seen stands_there

      no_more : HasNoMoreLinks seen seen_now
      no_more =
          no_more_links clear-seen.sound one_seen (no_link_clear clear-seen.sound page cell old (unlinked clear-seen.sound page cell old stands_there (back_of_top old.flag first)))
          (λ relation to_page to_cell reached names. names_none empty_cell to_page to_cell refl names)

      shared : IsSharedCell at u origin.versions origin.meant cut closed p.data_page.relation page cell
      shared =
          one-stamp at u origin.versions origin.meant cut closed p.data_page.relation page cell old old
          (top p.data_page.sequence page cell old reached_page stands first)
          (top p.data_page.sequence page cell old (named p.data_page.relation p.data_page.sequence page cell old reached_page stands (first, inr committed) cut closed) stands_there first)
          stands_there stands (ap (λ (s : Stamps). s.born cell) sees.edited_page.stamps)

      deletion-loses : ¬ IsLinked seen_now back_page back_cell
      deletion-loses =
          gone-below clear-seen.sound one_seen refl no_more p.data_page.relation back_page back_cell shared.seen_too
          (shared-leads at u origin.versions origin.meant cut closed p.data_page.relation page cell back_page back_cell shared way.leads)

  -- Whatever is cleared.
  pub clears-lose : (back_page back_cell : ℕ) → IsLinked newest back_page back_cell → ¬ IsLinked (with_page newest page made) back_page back_cell → IsClearing at page cell → ¬ IsLinked seen_now back_page back_cell
  clears-lose back_page back_cell linked lost (IsClearing.backout old stands is_first dead none) = absurd (lone-loses back_page back_cell linked lost old stands (test_of_same old.back_page 0 none))
  clears-lose back_page back_cell linked lost (IsClearing.deleted old stands deletion settled) = deletion-loses back_page back_cell linked lost old stands deletion settled.committed
  clears-lose back_page back_cell linked lost (IsClearing.unreached old stands back none) = absurd (value-loses back_page back_cell linked lost old stands back none)
