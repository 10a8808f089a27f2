-- Rows that the file names are named before the first event, and in each view that sees an edit of a cell.
use Rattle.std.proofs.Common.{◌≡◌, ◌∙◌, if◌then◌else◌, ℕ, Bool, true, false, [], Option, Some, None, refl, sym, subst}
use Rattle.std.proofs.Math.Path.{fun_ext}
use Rattle.std.proofs.lemmas.Option.{same_Some}
use Rattle.fbc_kinds.specs.declared.edits.Edit.TheVariants.{ClearCell, PutCell}
use Rattle.fbc_kinds.specs.declared.pages.Cell.{Cell}
use Rattle.fbc_kinds.specs.declared.pages.Page.{Page}
use Rattle.fbc_kinds.specs.declared.shapes.Shape.{Shape}
use Rattle.fbc_kinds.specs.DataSpelling.{empty_cell}
use Rattle.fbc_kinds.specs.View.{View, cell_at}
use Rattle.fbc_page_edits.specs.Allowed.{Fits}
use Rattle.fbc_page_edits.specs.Edited.{with_page}
use Rattle.fbc_world.specs.PageCell.{newest_in}
use Rattle.fbc_world.specs.World.{page_after}
use Rattle.fbc_legal.specs.Guards.{GuardOfEdit}
use Rattle.fbc_legal.specs.Rows.{IsPut}
use Rattle.fbc_legal.specs.Scene.{Scene, newest_at, scene_of}
use Rattle.fbc_legal.specs.Stamps.{Stamps}
use Rattle.fbc_closed_cuts.specs.Owed.{SeesEdit}
use Rattle.fbc_version_edits.specs.Puts.{IsClearIn, IsPutIn}
use Rattle.fbc_version_edits.proofs.OneCell.{IsOneCell, one_cell_cleared, one_cell_put}
use Rattle.fbc_origins.specs.Origins.{EveryView}
use Rattle.fbc_origins.specs.Owed.{IsInOrder}
use Rattle.fbc_origins.proofs.ClearsAllowed.{IsUnnamed, clears-unnamed}
use Rattle.fbc_origins.proofs.NewestFits.{newest-fits}
use Rattle.fbc_origins.proofs.PutPages.{IsPutPage, put-page}
use Rattle.fbc_origins.proofs.Seeing.{seen-shape, seen-sound, stands-seen}
use Rattle.fbc_origins.specs.Rows.{IsSettledTop, NamesRow, RowsAreNamed}
use Rattle.fbc_origins.proofs.ClearsLost.{IsClearPage, clear-page}
use Rattle.fbc_origins.proofs.PutsNamed.{HasSettledTop, IsNamedFrom, one-cell-named, put-settled}

-- What stands in a cell.
pub record IsStanding (at : Scene) (page cell : ℕ) : Type 0 where
  pub old : Cell
  pub stands : cell_at (newest_at at) page cell ≡ Some old

pub standing : (at : Scene) (owner page cell : ℕ) (content : Cell) → IsPut at owner page cell content → IsStanding at page cell
standing at owner page cell content (IsPut.first f) = record { old = f.old; stands = f.stands }
standing at owner page cell content (IsPut.over_own f) = record { old = f.old; stands = f.stands }
standing at owner page cell content (IsPut.over f) = record { old = f.old; stands = f.stands }
standing at owner page cell content (IsPut.move f) = record { old = f.old; stands = f.stands }
standing at owner page cell content (IsPut.backout f) = record { old = f.old; stands = f.stands }
standing at owner page cell content (IsPut.cut f) = record { old = f.old; stands = f.stands }

-- The law of every view is that of each.
pub rows-views : (at : Scene) → RowsAreNamed at → EveryView at (λ seen stamps. IsNamedFrom at seen)
rows-views at rows cut closed relation sequence pointer page cell top row stands settled = rows cut relation sequence pointer page cell top closed row stands settled

pub views-rows : (at : Scene) → EveryView at (λ seen stamps. IsNamedFrom at seen) → RowsAreNamed at
views-rows at each cut relation sequence pointer page cell top closed row stands settled = each cut closed relation sequence pointer page cell top row stands settled

-- Before the first event every view is the file.
pub rows-first : (shape : Shape) (file : View) → RowsAreNamed (scene_of shape file [])
rows-first shape file cut relation sequence pointer page cell top closed row stands settled =
    subst (λ (v : View). NamesRow shape v relation sequence pointer page) (fun_ext (λ p. first_page (cut p) (file p))) row
  where
    first_page : (b : Bool) (kept : Option Page) → (if b then newest_in kept None else kept) ≡ kept
    first_page true kept = refl
    first_page false kept = refl

module _ (at : Scene) (order : IsInOrder at) (owner page : ℕ) (made : Page) (seen : View) (stamps : ℕ → Stamps) (sees : SeesEdit at owner page seen stamps) where
  -- In the view a put changes the one cell.
  pub put-one : (cell : ℕ) (content old : Cell) → cell_at (newest_at at) page cell ≡ Some old → GuardOfEdit at owner page (PutCell cell content) → page_after at.shape at.world owner page (PutCell cell content) ≡ Some made
      → IsOneCell seen (with_page seen page made) page cell old content
  put-one cell content old stands g is = one_cell_put put (stands-seen at owner page seen stamps sees cell old stands) where
    p : IsPutPage at owner page cell content
    p = put-page at owner page cell content g

    put : IsPutIn at.shape seen page cell content made
    put = record {
      of_shape = seen-shape at owner page seen stamps sees order.upheld;
      sound = seen-sound at owner page seen stamps sees order.upheld;
      page = p.data_page;
      stands = sees.edited_page.page ∙ p.stands;
      fits = subst (λ (o : Option Page). Fits at.shape (PutCell cell content) o made) p.stands (newest-fits at order.upheld.coherent owner page (PutCell cell content) made g is);
    }

  -- So does a clearing, which leaves the cell empty.
  pub record IsOneCleared (cell : ℕ) : Type 0 where
    pub old : Cell
    pub one : IsOneCell seen (with_page seen page made) page cell old empty_cell

  pub clear-one : (cell : ℕ) → GuardOfEdit at owner page (ClearCell cell) → page_after at.shape at.world owner page (ClearCell cell) ≡ Some made → IsOneCleared cell
  clear-one cell g is = record { old = was.old; one = one_cell_cleared clear was.stands } where
    was : IsUnnamed seen page cell
    was = clears-unnamed at order owner page cell g seen stamps sees

    p : IsClearPage at owner page cell made
    p = clear-page at owner page cell made order.upheld g is

    clear : IsClearIn at.shape seen page cell made
    clear = record {
      of_shape = seen-shape at owner page seen stamps sees order.upheld;
      sound = seen-sound at owner page seen stamps sees order.upheld;
      page = p.data_page;
      stands = sees.edited_page.page ∙ p.stands;
      fits = p.fits;
    }

  module _ (each : IsNamedFrom at seen) where
    -- A version is put.
    pub put-named : (cell : ℕ) (content : Cell) → GuardOfEdit at owner page (PutCell cell content) → page_after at.shape at.world owner page (PutCell cell content) ≡ Some made → IsNamedFrom at (with_page seen page made)
    put-named cell content g is = one-cell-named at seen (with_page seen page made) page cell was.old content (put-one cell content was.old was.stands g is) settles each where
      was : IsStanding at page cell
      was = standing at owner page cell content g.row

      settles : IsSettledTop at content → IsSettledTop at was.old
      settles settled =
          let had : HasSettledTop at page cell = put-settled at order.numbered owner page cell content g g.row settled in
          subst (IsSettledTop at) (same_Some had.old was.old (sym had.stands ∙ was.stands)) had.settled

    -- A cell is cleared.
    pub clear-named : (cell : ℕ) → GuardOfEdit at owner page (ClearCell cell) → page_after at.shape at.world owner page (ClearCell cell) ≡ Some made → IsNamedFrom at (with_page seen page made)
    clear-named cell g is =
        let was : IsOneCleared cell = clear-one cell g is in
        one-cell-named at seen (with_page seen page made) page cell was.old empty_cell was.one (λ settled. absurd (let no = settled.0 in cc)) each
