-- The row whose chain goes through the cell that loses its link is cut there, and each other row keeps its chain.
use Rattle.std.proofs.Common.{◌≡◌, ◌∙◌, ◌<◌, ◌==◌, ◌%◌, ◌/◌, ℕ, zero, suc, Bool, true, false, List, [], ◌∷◌, ◌⊎◌, inl, inr, refl, sym, ap, subst, arith}
use Rattle.std.specs.Prelude.{Option, Some, None, if◌then◌else◌}
use Rattle.std.specs.Option.{option_and_then}
use Rattle.std.proofs.lemmas.Option.{same_Some}
use Rattle.fbc_kinds.specs.declared.pages.Cell.{Cell}
use Rattle.fbc_kinds.specs.Chain.{Version, below, cells_of, chain, chain_from, version_of, versions_from}
use Rattle.fbc_kinds.specs.Reach.{NamesBack, ReachesCell, along, top}
use Rattle.fbc_kinds.specs.Sound.{IsSound}
use Rattle.fbc_kinds.specs.View.{View, cell_at, data_of, is_top}
use Rattle.fbc_page_edits.specs.Alike.{IsCutBelow}
use Rattle.fbc_page_edits.specs.Facing.{IsRowAt}
use Rattle.fbc_version_edits.specs.Differences.{GoesThrough, IsPlace, begins, goes_on}
use Rattle.fbc_version_edits.proofs.Chains.{below_none, below_some, no_versions}
use Rattle.fbc_version_edits.proofs.CutChains.{ends, under_cut}
use Rattle.fbc_version_edits.proofs.Frames.{chain_of_none, chain_of_top, row_after, row_after_stands, row_at_or_not, row_before_stands, row_stands}
use Rattle.fbc_version_edits.proofs.OneCell.{IsOneCell, here_or_not, is_old, new_stands}

-- The cells that a row's chain goes through are reached.
through_reached : (view : View) (relation row page cell : ℕ) → GoesThrough view relation row page cell → ReachesCell view relation page cell
through_reached view relation row _ _ (begins page cell version at stands is) = top (row / cells_of view relation) page cell version at.named stands is
through_reached view relation row _ _ (goes_on page cell back_page back_cell version through stands names) =
    along page cell back_page back_cell version (through_reached view relation row page cell through) stands names

module _ {before after : View} {page cell : ℕ} {old new : Cell} (sound : IsSound before) (one : IsOneCell before after page cell old new)
    (same : new ≡ record old { back_page = 0; back_cell = 0 }) (relation row : ℕ) where
  -- The versions from a cell on are cut, however many turns are taken.
  abbrev IsCutFrom : ℕ → ℕ → Type 0
  IsCutFrom other place = (version : Cell) → cell_at before other place ≡ Some version → (count : ℕ) → version.number < count
      → IsCutBelow (version_of new) (versions_from before count (Some version)) (versions_from after count (cell_at after other place))

  cut_at : (other place : ℕ) → IsPlace page cell other place → IsCutFrom other place
  cut_at other place at version stands zero less = absurd (omega arith)
  cut_at other place at version stands (suc count) less =
      rw (is_old one other place version at stands, new_stands one other place at) (ends one (ap (λ (v : Cell). v.back_page) same) (ap version_of same) count)

  cut_above : (other place back_page back_cell : ℕ) (version : Cell) → ReachesCell before relation other place → cell_at before other place ≡ Some version → NamesBack version back_page back_cell
      → IsCutFrom back_page back_cell → IsCutFrom other place
  cut_above other place back_page back_cell version reached stands names later w also count less = go (here_or_not page cell other place) count less
    where
      is : w ≡ version
      is = same_Some w version (sym also ∙ stands)

      leads : (view : View) → below view version ≡ cell_at view back_page back_cell
      leads view = below_some view version names.some ∙ ap (λ n. cell_at view n version.back_cell) names.page_is ∙ ap (cell_at view back_page) names.cell_is

      rest : (turns : ℕ) → version.number < suc turns → IsCutBelow (version_of new) (versions_from before turns (below before version)) (versions_from after turns (below after version))
      rest turns enough =
          let value = sound.back relation other place back_page back_cell version (record { reached = reached; stands = stands; names = names }) in
          rw (leads before ∙ value.stands, leads after) (later value.back value.stands turns (omega (arith, value.smaller)))

      go : IsPlace page cell other place ⊎ ¬ IsPlace page cell other place → (turns : ℕ) → w.number < turns
          → IsCutBelow (version_of new) (versions_from before turns (Some w)) (versions_from after turns (cell_at after other place))
      go (inl at) turns enough = cut_at other place at w also turns enough
      go (inr differ) zero enough = absurd (omega arith)
      go (inr differ) (suc turns) enough =
          rw (one.others other place differ, stands, is)
          (under_cut (version_of version) (version_of new) _ _ (rest turns (subst (λ (v : Cell). v.number < suc turns) is enough)))

  -- Where a chain begins at a cell, it takes the same turns afterwards.
  turns_after : (other place : ℕ) (version : Cell) → cell_at before other place ≡ Some version → is_top version.flag ≡ true
      → chain_from after (cell_at after other place) ≡ versions_from after (suc version.number) (cell_at after other place)
  turns_after other place version stands is = go (here_or_not page cell other place)
    where
      flat : (found : Cell) → cell_at after other place ≡ Some found → is_top found.flag ≡ true → found.number ≡ version.number
          → chain_from after (cell_at after other place) ≡ versions_from after (suc version.number) (cell_at after other place)
      flat found there is_too number =
          ap (chain_from after) there
          ∙ ap (λ b. if b then versions_from after (suc found.number) (Some found) else []) is_too
          ∙ ap (λ n. versions_from after (suc n) (Some found)) number
          ∙ sym (ap (versions_from after (suc version.number)) there)

      go : IsPlace page cell other place ⊎ ¬ IsPlace page cell other place → chain_from after (cell_at after other place) ≡ versions_from after (suc version.number) (cell_at after other place)
      go (inl at) =
          let was : version ≡ old = is_old one other place version at stands in
          flat new (new_stands one other place at)
          (ap (λ (v : Cell). is_top v.flag) same ∙ sym (ap (λ (v : Cell). is_top v.flag) was) ∙ is)
          (ap (λ (v : Cell). v.number) same ∙ sym (ap (λ (v : Cell). v.number) was))
      go (inr differ) = flat version (one.others other place differ ∙ stands) is refl

  cut_up : (other place : ℕ) → GoesThrough before relation row other place → IsCutFrom other place → IsCutBelow (version_of new) (chain before relation row) (chain after relation row)
  cut_up _ _ (begins other place version at stands is) cut =
      let was : chain before relation row ≡ versions_from before (suc version.number) (Some version) = chain_of_top before relation row version (row_stands before relation row other place at ∙ stands) is in
      let there = row_after one relation row ∙ ap (option_and_then (λ (p : ℕ). cell_at after p (row % cells_of before relation))) at.named ∙ ap (cell_at after other) at.place in
      let left : chain after relation row ≡ versions_from after (suc version.number) (cell_at after other place) = ap (chain_from after) there ∙ turns_after other place version stands is in
      let P : List Version → Type 0 = λ versions. IsCutBelow (version_of new) versions (chain after relation row) in
      let Q : List Version → Type 0 = λ versions. IsCutBelow (version_of new) (versions_from before (suc version.number) (Some version)) versions in
      subst P (sym was) (subst Q (sym left) (cut version stands (suc version.number) (omega arith)))
  cut_up _ _ (goes_on other place back_page back_cell version through stands names) cut =
      cut_up other place through (cut_above other place back_page back_cell version (through_reached before relation row other place through) stands names cut)

  pub cut_through : GoesThrough before relation row page cell → IsCutBelow (version_of new) (chain before relation row) (chain after relation row)
  cut_through through = cut_up page cell through (cut_at page cell (refl, refl))

-- What does not go through the cell stays.
module _ {before after : View} {page cell : ℕ} {old new : Cell} (one : IsOneCell before after page cell old new) (same : new ≡ record old { back_page = 0; back_cell = 0 })
    (relation row : ℕ) (apart : ¬ GoesThrough before relation row page cell) where
  kept_from : (count other place : ℕ) (version : Cell) → GoesThrough before relation row other place → cell_at before other place ≡ Some version
      → versions_from after count (Some version) ≡ versions_from before count (Some version)
  kept_from zero other place version through stands = refl
  kept_from (suc count) other place version through stands =
      ap (λ rest. version_of version ∷ rest) (go (version.back_page == 0) refl (λ w. kept_from count version.back_page version.back_cell w))
    where
      next : (found : Option Cell) → cell_at before version.back_page version.back_cell ≡ found → GoesThrough before relation row version.back_page version.back_cell
          → ((w : Cell) → GoesThrough before relation row version.back_page version.back_cell → cell_at before version.back_page version.back_cell ≡ Some w
          → versions_from after count (Some w) ≡ versions_from before count (Some w))
          → versions_from after count found ≡ versions_from before count found
      next None is on later = no_versions after count ∙ sym (no_versions before count)
      next (Some w) is on later = later w on is

      elsewhere : GoesThrough before relation row version.back_page version.back_cell → ¬ IsPlace page cell version.back_page version.back_cell
      elsewhere on at = apart (subst (λ n. GoesThrough before relation row page n) at.1 (subst (λ n. GoesThrough before relation row n version.back_cell) at.0 on))

      go : (b : Bool) → (version.back_page == 0) ≡ b
          → ((w : Cell) → GoesThrough before relation row version.back_page version.back_cell → cell_at before version.back_page version.back_cell ≡ Some w
          → versions_from after count (Some w) ≡ versions_from before count (Some w))
          → versions_from after count (below after version) ≡ versions_from before count (below before version)
      go true is later =
          ap (versions_from after count) (below_none after version is) ∙ no_versions after count
          ∙ sym (ap (versions_from before count) (below_none before version is) ∙ no_versions before count)
      go false is later =
          let on = goes_on other place version.back_page version.back_cell version through stands (record { some = is; page_is = refl; cell_is = refl }) in
          ap (versions_from after count) (below_some after version is ∙ one.others version.back_page version.back_cell (elsewhere on))
          ∙ next (cell_at before version.back_page version.back_cell) refl on later
          ∙ sym (ap (versions_from before count) (below_some before version is))

  kept_begin : (other place : ℕ) → IsRowAt before relation row other place → (found : Option Cell) → cell_at before other place ≡ found → chain_from after found ≡ chain_from before found
  kept_begin other place at None stands = refl
  kept_begin other place at (Some version) stands = go (is_top version.flag) refl
    where
      go : (b : Bool) → is_top version.flag ≡ b
          → (if b then versions_from after (suc version.number) (Some version) else []) ≡ (if b then versions_from before (suc version.number) (Some version) else [])
      go true is = kept_from (suc version.number) other place version (begins other place version at stands is) stands
      go false is = refl

  pub kept_apart : chain after relation row ≡ chain before relation row
  kept_apart = go (row_at_or_not before relation row page cell)
    where
      here : IsRowAt before relation row page cell → (b : Bool) → is_top old.flag ≡ b → chain after relation row ≡ chain before relation row
      here at true is = absurd (apart (begins page cell old at one.was is))
      here at false is =
          chain_of_none after relation row new (row_after_stands one relation row at) (ap (λ (v : Cell). is_top v.flag) same ∙ is)
          ∙ sym (chain_of_none before relation row old (row_before_stands one relation row at) is)

      there : ¬ IsRowAt before relation row page cell → (found : Option ℕ) → data_of before relation (row / cells_of before relation) ≡ found
          → chain_from after (option_and_then (λ (p : ℕ). cell_at after p (row % cells_of before relation)) found)
          ≡ chain_from before (option_and_then (λ (p : ℕ). cell_at before p (row % cells_of before relation)) found)
      there elsewhere None is = refl
      there elsewhere (Some other) is =
          ap (chain_from after) (one.others other (row % cells_of before relation) (λ at. elsewhere (record { named = is ∙ ap Some at.0; place = at.1 })))
          ∙ kept_begin other (row % cells_of before relation) (record { named = is; place = refl }) (cell_at before other (row % cells_of before relation)) refl

      go : IsRowAt before relation row page cell ⊎ ¬ IsRowAt before relation row page cell → chain after relation row ≡ chain before relation row
      go (inl at) = here at (is_top old.flag) refl
      go (inr elsewhere) = ap (chain_from after) (row_after one relation row) ∙ there elsewhere (data_of before relation (row / cells_of before relation)) refl
