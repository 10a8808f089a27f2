-- A cell that is cleared, in a view that sees it.
use Rattle.std.proofs.Common.{◌≡◌, ℕ, List, Option, Some, None, true, refl, sym, ap, subst}
use Rattle.fbc_kinds.specs.declared.edits.Edit.TheVariants.{ClearCell}
use Rattle.fbc_kinds.specs.declared.pages.Cell.{Cell}
use Rattle.fbc_kinds.specs.declared.pages.Page.{Page}
use Rattle.fbc_kinds.specs.declared.pages.Page.TheVariants as kind
use Rattle.fbc_kinds.specs.declared.pages.State.TheVariants.{Dead}
use Rattle.fbc_kinds.specs.declared.shapes.Shape.{Shape}
use Rattle.fbc_kinds.specs.declared.snapshots.Transaction.{Transaction}
use Rattle.fbc_kinds.specs.Chain.{state_of}
use Rattle.fbc_kinds.specs.Meaning.{meaning_with}
use Rattle.fbc_kinds.specs.declared.pages.Flag.TheVariants.{Deletion}
use Rattle.fbc_kinds.specs.View.{View, cell_at, is_back, is_committed_state, is_top}
use Rattle.fbc_runs.specs.Reading.{ReadsAs}
use Rattle.fbc_page_edits.specs.Allowed.{Fits}
use Rattle.fbc_page_edits.specs.Edited.{with_page}
use Rattle.fbc_version_edits.specs.Forms.{IsDeletedRow, IsLoneVersion, IsUnnamedValue}
use Rattle.fbc_version_edits.specs.Puts.{IsClearIn}
use Rattle.fbc_world.specs.History.{History}
use Rattle.fbc_legal.specs.Rows.{IsSettled as IsSettledAt}
use Rattle.fbc_legal.specs.Scene.{Scene, newest_at, scene_of}
use Rattle.fbc_legal.specs.Stamps.{Stamps, stamps_of}
use Rattle.fbc_closed_cuts.specs.Cut.{Cut}
use Rattle.fbc_closed_cuts.specs.Views.{view_stamps}
use Rattle.fbc_numbers.proofs.CutFacts.{never-committed}
use Rattle.fbc_origins.proofs.ClearsAllowed.{clears-unnamed}
use Rattle.fbc_origins.proofs.Seeing.{stands-seen}
use Rattle.fbc_simulation.specs.EditIn.{EditIsMeant, IsEditIn}
use Rattle.fbc_simulation.proofs.CellEdits.{beside, machine, same-ends, seen}
use Rattle.fbc_simulation.proofs.OpenNumbers.{settled-in}

module _ (shape : Shape) (file : View) (past : History) (owner page cell : ℕ) (content : Page) (cut : Cut) (living : List Transaction)
    (is : IsEditIn shape file past owner page (ClearCell cell) content cut living) where
  abbrev pub before : View
  before = seen shape file past owner page (ClearCell cell) content cut living is

  abbrev pub at : Scene
  at = scene_of shape file past

  abbrev pub origin : ℕ → Stamps
  origin = view_stamps at.world (stamps_of shape file past) cut

  pub stands : (old : Cell) → cell_at (newest_at at) page cell ≡ Some old → cell_at before page cell ≡ Some old
  stands old there = stands-seen at owner page before origin is.sees.sees cell old there

  -- A dead version without a back version.
  abbrev pub lone : (old : Cell) → cell_at (newest_at at) page cell ≡ Some old → is_top old.flag ≡ true → state_of (newest_at at) old.number ≡ Dead → old.back_page ≡ 0 → IsLoneVersion before page cell
  lone old there top dead alone = record {
    old = old;
    stands = stands old there;
    top = top;
    uncommitted = never-committed at.world is.whole.order.numbered.grow old.number (ap is_committed_state dead) cut is.closed;
    alone = alone;
  }

  -- A settled deletion.
  abbrev pub deleted : (old : Cell) → cell_at (newest_at at) page cell ≡ Some old → old.flag ≡ Deletion → IsSettledAt at old.number → IsDeletedRow before page cell
  deleted old there deletion settled = record {
    old = old;
    stands = stands old there;
    deletion = deletion;
    committed = (settled-in at is.whole cut is.closed living is.opens old.number settled).committed;
  }

  -- A back value that is not reached.
  pub unnamed : (old : Cell) → cell_at (newest_at at) page cell ≡ Some old → is_back old.flag ≡ true → IsUnnamedValue before page cell
  unnamed old there value = record {
    old = old;
    stands = stands old there;
    value = value;
    unnamed = (clears-unnamed at is.whole.order owner page cell is.sees.guard before origin is.sees.sees).unnamed;
  }

  -- The view has a data page there.
  pub clear-in : IsClearIn shape before page cell content
  clear-in = go (before page) refl is.sees.fits where
    go : (found : Option Page) → before page ≡ found → Fits shape (ClearCell cell) found content → IsClearIn shape before page cell content
    go (Some (kind.Data d)) stands fits = record { of_shape = is.sees.of_shape; sound = is.sees.sound; page = d; stands = stands; fits = fits }
    go None stands fits = absurd fits
    go (Some _) stands fits = cc

  -- What is read with the cleared cell is meant: a clearing is no command.
  pub clears-read : ReadsAs (meaning_with living (with_page before page content)) (beside shape file past owner page (ClearCell cell) content cut living is) → EditIsMeant shape file past owner page (ClearCell cell) content cut living
  clears-read reads =
      subst (ReadsAs (meaning_with living (with_page before page content)))
      (sym (same-ends shape file past owner page (ClearCell cell) content cut living is refl (machine shape file past owner page (ClearCell cell) content cut living is))) reads
