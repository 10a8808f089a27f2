-- Chains that do not pass the cell that changes stay the same.
use Rattle.std.proofs.Common.{◌≡◌, ◌∙◌, ◌==◌, ◌%◌, ◌/◌, ℕ, zero, suc, Bool, true, false, [], ◌∷◌, ◌⊎◌, inl, inr, refl, sym, ap}
use Rattle.std.specs.Prelude.{Option, Some, None, if◌then◌else◌}
use Rattle.std.specs.Option.{option_and_then}
use Rattle.std.proofs.lemmas.Option.{same_Some}
use Rattle.fbc_kinds.specs.declared.pages.Cell.{Cell}
use Rattle.fbc_kinds.specs.Chain.{below, cells_of, chain, chain_from, row_cell, version_of, versions_from}
use Rattle.fbc_kinds.specs.Reach.{DataRole, Reaches, ReachesCell, top}
use Rattle.fbc_kinds.specs.View.{View, cell_at, data_of, is_top}
use Rattle.fbc_kinds.proofs.Tests.{test_of_same}
use Rattle.fbc_page_edits.specs.Alike.{HaveOtherChains, HaveSameChains}
use Rattle.fbc_version_edits.specs.Forms.{NamesNone}
use Rattle.fbc_page_edits.specs.Facing.{NameTheSame, IsLinked, IsRowAt}
use Rattle.fbc_version_edits.specs.Differences.{IsPlace}
use Rattle.fbc_version_edits.proofs.Chains.{below_none, below_reached, below_some, no_versions}
use Rattle.fbc_version_edits.proofs.OneCell.{IsOneCell, cells_same, data_same, here_or_not}

-- The chain of a top, and of what is none.
pub chain_of_top : (view : View) (relation row : ℕ) (version : Cell) → row_cell view relation row ≡ Some version → is_top version.flag ≡ true
    → chain view relation row ≡ version_of version ∷ versions_from view version.number (below view version)
chain_of_top view relation row version here is =
    ap (chain_from view) here ∙ ap (λ b. if b then version_of version ∷ versions_from view version.number (below view version) else []) is

pub chain_of_none : (view : View) (relation row : ℕ) (version : Cell) → row_cell view relation row ≡ Some version → is_top version.flag ≡ false → chain view relation row ≡ []
chain_of_none view relation row version here is =
    ap (chain_from view) here ∙ ap (λ b. if b then version_of version ∷ versions_from view version.number (below view version) else []) is

pub chain_of_lone : (view : View) (relation row : ℕ) (version : Cell) → row_cell view relation row ≡ Some version → is_top version.flag ≡ true → NamesNone version
    → chain view relation row ≡ version_of version ∷ []
chain_of_lone view relation row version here is alone =
    chain_of_top view relation row version here is
    ∙ ap (λ rest. version_of version ∷ rest) (ap (versions_from view version.number) (below_none view version (test_of_same version.back_page 0 alone)) ∙ no_versions view version.number)

-- Versions that name the same have the same below them.
pub same_below : (view : View) (old new : Cell) → NameTheSame old new → below view new ≡ below view old
same_below view old new link =
    ap (λ n. if n == 0 then None else cell_at view n new.back_cell) link.page ∙ ap (λ n. if old.back_page == 0 then None else cell_at view old.back_page n) link.cell

-- The cell of a row that stands at a place.
pub row_stands : (view : View) (relation row page cell : ℕ) → IsRowAt view relation row page cell → row_cell view relation row ≡ cell_at view page cell
row_stands view relation row page cell at =
    ap (option_and_then (λ (p : ℕ). cell_at view p (row % cells_of view relation))) at.named ∙ ap (cell_at view page) at.place

module _ {before after : View} {page cell : ℕ} {old new : Cell} (one : IsOneCell before after page cell old new) where
  -- A row has the same place afterwards.
  pub row_after : (relation row : ℕ) → row_cell after relation row ≡ option_and_then (λ (p : ℕ). cell_at after p (row % cells_of before relation)) (data_of before relation (row / cells_of before relation))
  row_after relation row =
      ap (λ n. option_and_then (λ (p : ℕ). cell_at after p (row % n)) (data_of after relation (row / cells_of after relation))) (cells_same one relation)
      ∙ ap (option_and_then (λ (p : ℕ). cell_at after p (row % cells_of before relation))) (data_same one relation row)

  pub row_before_stands : (relation row : ℕ) → IsRowAt before relation row page cell → row_cell before relation row ≡ Some old
  row_before_stands relation row at = row_stands before relation row page cell at ∙ one.was

  pub row_after_stands : (relation row : ℕ) → IsRowAt before relation row page cell → row_cell after relation row ≡ Some new
  row_after_stands relation row at =
      row_after relation row ∙ ap (option_and_then (λ (p : ℕ). cell_at after p (row % cells_of before relation))) at.named ∙ ap (cell_at after page) at.place ∙ one.is

-- A row's top stands at a place, or it does not.
pub row_at_or_not : (view : View) (relation row page cell : ℕ) → IsRowAt view relation row page cell ⊎ ¬ IsRowAt view relation row page cell
row_at_or_not view relation row page cell = go (data_of view relation (row / cells_of view relation)) refl
  where
    go : (found : Option ℕ) → data_of view relation (row / cells_of view relation) ≡ found → IsRowAt view relation row page cell ⊎ ¬ IsRowAt view relation row page cell
    go None is = inr (λ at. let named = at.named in cc)
    go (Some other) is = by (here_or_not page cell other (row % cells_of view relation))
      where
        by : IsPlace page cell other (row % cells_of view relation) ⊎ ¬ IsPlace page cell other (row % cells_of view relation) → IsRowAt view relation row page cell ⊎ ¬ IsRowAt view relation row page cell
        by (inl at) = inl (record { named = is ∙ ap Some at.0; place = at.1 })
        by (inr differ) = inr (λ at. differ (same_Some other page (sym is ∙ at.named), at.place))

module _ {before after : View} {page cell : ℕ} {old new : Cell} (one : IsOneCell before after page cell old new) (unlinked : ¬ IsLinked before page cell) where
  -- A version that is reached names another cell than the one that changes.
  below_kept : (relation other place : ℕ) (version : Cell) → ReachesCell before relation other place → cell_at before other place ≡ Some version → (version.back_page == 0) ≡ false
      → cell_at after version.back_page version.back_cell ≡ cell_at before version.back_page version.back_cell
  below_kept relation other place version reached stands some =
      one.others version.back_page version.back_cell (λ at. unlinked (linked at))
    where
      linked : IsPlace page cell version.back_page version.back_cell → IsLinked before page cell
      linked at = record {
        relation = relation;
        from_page = other;
        from_cell = place;
        version = version;
        links = record { reached = reached; stands = stands; names = record { some = some; page_is = at.0; cell_is = at.1 } };
      }

  -- What is below a version that is reached stays the same.
  pub below_frame : (count relation other place : ℕ) (version : Cell) → ReachesCell before relation other place → cell_at before other place ≡ Some version
      → versions_from after count (below after version) ≡ versions_from before count (below before version)
  below_frame zero relation other place version reached stands = refl
  below_frame (suc count) relation other place version reached stands =
      go (version.back_page == 0) refl (λ w. below_frame count relation version.back_page version.back_cell w)
    where
      next : (found : Option Cell) → cell_at before version.back_page version.back_cell ≡ found → ReachesCell before relation version.back_page version.back_cell
          → ((w : Cell) → ReachesCell before relation version.back_page version.back_cell → cell_at before version.back_page version.back_cell ≡ Some w
          → versions_from after count (below after w) ≡ versions_from before count (below before w))
          → versions_from after (suc count) found ≡ versions_from before (suc count) found
      next None is reached later = refl
      next (Some w) is reached later = ap (λ rest. version_of w ∷ rest) (later w reached is)

      go : (b : Bool) → (version.back_page == 0) ≡ b
          → ((w : Cell) → ReachesCell before relation version.back_page version.back_cell → cell_at before version.back_page version.back_cell ≡ Some w
          → versions_from after count (below after w) ≡ versions_from before count (below before w))
          → versions_from after (suc count) (below after version) ≡ versions_from before (suc count) (below before version)
      go true is later = ap (versions_from after (suc count)) (below_none after version is) ∙ sym (ap (versions_from before (suc count)) (below_none before version is))
      go false is later =
          ap (versions_from after (suc count)) (below_some after version is ∙ below_kept relation other place version reached stands is)
          ∙ next (cell_at before version.back_page version.back_cell) refl (below_reached before relation other place version reached stands is) later
          ∙ sym (ap (versions_from before (suc count)) (below_some before version is))

  from_frame : (relation sequence other place : ℕ) (found : Option Cell) → cell_at before other place ≡ found → Reaches before (DataRole relation sequence) other
      → chain_from after found ≡ chain_from before found
  from_frame relation sequence other place None stands named = refl
  from_frame relation sequence other place (Some version) stands named = go (is_top version.flag) refl
    where
      go : (b : Bool) → is_top version.flag ≡ b
          → (if b then version_of version ∷ versions_from after version.number (below after version) else [])
          ≡ (if b then version_of version ∷ versions_from before version.number (below before version) else [])
      go true is =
          ap (λ rest. version_of version ∷ rest) (below_frame version.number relation other place version (top sequence other place version named stands is) stands)
      go false is = refl

  -- The chains of the rows whose top stands elsewhere stay the same.
  pub other_chains : HaveOtherChains page cell before after
  other_chains relation row elsewhere =
      ap (chain_from after) (row_after one relation row) ∙ go (data_of before relation (row / cells_of before relation)) refl
    where
      go : (found : Option ℕ) → data_of before relation (row / cells_of before relation) ≡ found
          → chain_from after (option_and_then (λ (p : ℕ). cell_at after p (row % cells_of before relation)) found)
          ≡ chain_from before (option_and_then (λ (p : ℕ). cell_at before p (row % cells_of before relation)) found)
      go None is = refl
      go (Some other) is =
          let place = row % cells_of before relation in
          let differ : ¬ IsPlace page cell other (row % cells_of before relation) = λ at. elsewhere (record { named = is ∙ ap Some at.0; place = at.1 }) in
          ap (chain_from after) (one.others other place differ)
          ∙ from_frame relation (row / cells_of before relation) other place (cell_at before other place) refl is

  -- All chains stay the same where neither version is a top.
  pub same_chains : is_top old.flag ≡ false → is_top new.flag ≡ false → HaveSameChains before after
  same_chains old_not new_not relation row = go (row_at_or_not before relation row page cell)
    where
      go : IsRowAt before relation row page cell ⊎ ¬ IsRowAt before relation row page cell → chain after relation row ≡ chain before relation row
      go (inr differ) = other_chains relation row differ
      go (inl at) =
          chain_of_none after relation row new (row_after_stands one relation row at) new_not
          ∙ sym (chain_of_none before relation row old (row_before_stands one relation row at) old_not)
