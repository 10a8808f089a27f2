-- A chain in which a version loses its link ends with it.
use Rattle.std.proofs.Common.{◌≡◌, ◌∙◌, ◌==◌, ◌%◌, ◌/◌, ℕ, zero, suc, Bool, true, false, List, [], ◌∷◌, ◌⊎◌, inl, inr, refl, sym, ap, subst}
use Rattle.std.specs.Prelude.{Option, Some, None, if◌then◌else◌}
use Rattle.std.specs.Option.{option_and_then}
use Rattle.std.proofs.lemmas.Option.{same_Some}
use Rattle.fbc_kinds.specs.declared.pages.Cell.{Cell}
use Rattle.fbc_kinds.specs.Chain.{Version, below, cells_of, chain, chain_from, version_of, versions_from}
use Rattle.fbc_kinds.specs.View.{View, cell_at, data_of, is_top}
use Rattle.fbc_kinds.proofs.Tests.{test_of_same}
use Rattle.fbc_page_edits.specs.Alike.{IsCutBelow}
use Rattle.fbc_version_edits.specs.Forms.{NamesNone}
use Rattle.fbc_version_edits.specs.Differences.{IsPlace}
use Rattle.fbc_version_edits.proofs.Chains.{below_none, below_some, no_versions}
use Rattle.fbc_version_edits.proofs.Frames.{row_after}
use Rattle.fbc_version_edits.proofs.OneCell.{IsOneCell, here_or_not, is_new, is_old, new_stands, old_stands}

-- A chain is the same or cut below a version.
abbrev pub IsSameOrCut : Version → List Version → List Version → Type 0
IsSameOrCut version before after = (after ≡ before) ⊎ IsCutBelow version before after

-- Also under one more version.
pub under_cut : (first version : Version) (before after : List Version) → IsCutBelow version before after → IsCutBelow version (first ∷ before) (first ∷ after)
under_cut first version before after cut = record {
  newer = first ∷ cut.newer;
  older = cut.older;
  whole = ap (λ rest. first ∷ rest) cut.whole;
  left = ap (λ rest. first ∷ rest) cut.left;
}

under : (first version : Version) (before after : List Version) → IsSameOrCut version before after → IsSameOrCut version (first ∷ before) (first ∷ after)
under first version before after (inl same) = inl (ap (λ rest. first ∷ rest) same)
under first version before after (inr cut) = inr (under_cut first version before after cut)

module _ {before after : View} {page cell : ℕ} {old new : Cell} (one : IsOneCell before after page cell old new) (alone : NamesNone new)
    (version_same : version_of new ≡ version_of old) where
  -- At the cell itself the chain ends.
  pub ends : (count : ℕ) → IsCutBelow (version_of new) (versions_from before (suc count) (Some old)) (versions_from after (suc count) (Some new))
  ends count = record {
    newer = [];
    older = versions_from before count (below before old);
    whole = ap (λ v. v ∷ versions_from before count (below before old)) (sym version_same);
    left = ap (λ rest. version_of new ∷ rest) (ap (versions_from after count) (below_none after new (test_of_same new.back_page 0 alone)) ∙ no_versions after count);
  }

  pub cut_from : (count other place : ℕ) → IsSameOrCut (version_of new) (versions_from before count (cell_at before other place)) (versions_from after count (cell_at after other place))
  cut_from zero other place = inl refl
  cut_from (suc count) other place = go (here_or_not page cell other place) (cell_at before other place) refl (λ w. cut_from count w.back_page w.back_cell)
    where
      next : (w : Cell) (b : Bool) → (w.back_page == 0) ≡ b
          → IsSameOrCut (version_of new) (versions_from before count (cell_at before w.back_page w.back_cell)) (versions_from after count (cell_at after w.back_page w.back_cell))
          → IsSameOrCut (version_of new) (versions_from before count (below before w)) (versions_from after count (below after w))
      next w true is later =
          inl (ap (versions_from after count) (below_none after w is) ∙ no_versions after count ∙ sym (ap (versions_from before count) (below_none before w is) ∙ no_versions before count))
      next w false is later =
          rw (below_some before w is, below_some after w is) later

      go : IsPlace page cell other place ⊎ ¬ IsPlace page cell other place → (found : Option Cell) → cell_at before other place ≡ found
          → ((w : Cell) → IsSameOrCut (version_of new) (versions_from before count (cell_at before w.back_page w.back_cell)) (versions_from after count (cell_at after w.back_page w.back_cell)))
          → IsSameOrCut (version_of new) (versions_from before (suc count) (cell_at before other place)) (versions_from after (suc count) (cell_at after other place))
      go (inl at) found is later = rw (old_stands one other place at, new_stands one other place at) (inr (ends count))
      go (inr differ) None is later = inl (ap (versions_from after (suc count)) (one.others other place differ ∙ is) ∙ sym (ap (versions_from before (suc count)) is))
      go (inr differ) (Some w) is later =
          rw (one.others other place differ, is) (under (version_of w) (version_of new) _ _ (next w (w.back_page == 0) refl (later w)))

-- Each chain is the same, or cut.
module _ {before after : View} {page cell : ℕ} {old new : Cell} (one : IsOneCell before after page cell old new) (same : new ≡ record old { back_page = 0; back_cell = 0 }) where
  from_start : (other place : ℕ) (found : Option Cell) → cell_at before other place ≡ found → (later : Option Cell) → cell_at after other place ≡ later
      → IsPlace page cell other place ⊎ ¬ IsPlace page cell other place
      → ((count : ℕ) → IsSameOrCut (version_of new) (versions_from before count (cell_at before other place)) (versions_from after count (cell_at after other place)))
      → IsSameOrCut (version_of new) (chain_from before (cell_at before other place)) (chain_from after (cell_at after other place))
  from_start other place None is later also (inl at) cut = let stands = old_stands one other place at in cc
  from_start other place None is later also (inr differ) cut = inl (ap (chain_from after) (one.others other place differ ∙ is) ∙ sym (ap (chain_from before) is))
  from_start other place (Some w) is None also (inl at) cut = let stands = new_stands one other place at in cc
  from_start other place (Some w) is None also (inr differ) cut = let stands = one.others other place differ in cc
  from_start other place (Some w) is (Some v) also either cut = rw (is, also) (go (is_top w.flag) refl (same_flag either))
    where
      same_flag : IsPlace page cell other place ⊎ ¬ IsPlace page cell other place → (is_top v.flag ≡ is_top w.flag) × (v.number ≡ w.number)
      same_flag (inl at) =
          let newer : v ≡ new = is_new one other place v at also in
          let older : w ≡ old = is_old one other place w at is in
          let both = newer ∙ same in
          (ap (λ (x : Cell). is_top x.flag) both ∙ sym (ap (λ (x : Cell). is_top x.flag) older), ap (λ (x : Cell). x.number) both ∙ sym (ap (λ (x : Cell). x.number) older))
      same_flag (inr differ) =
          let alike : v ≡ w = same_Some v w (sym also ∙ one.others other place differ ∙ is) in
          (ap (λ (x : Cell). is_top x.flag) alike, ap (λ (x : Cell). x.number) alike)

      go : (b : Bool) → is_top w.flag ≡ b → (is_top v.flag ≡ is_top w.flag) × (v.number ≡ w.number)
          → IsSameOrCut (version_of new) (chain_from before (Some w)) (chain_from after (Some v))
      go false other_flag kept = inl (ap (λ b. if b then versions_from after (suc v.number) (Some v) else []) (kept.0 ∙ other_flag) ∙ sym (ap (λ b. if b then versions_from before (suc w.number) (Some w) else []) other_flag))
      go true top_flag kept =
          let walk : IsSameOrCut (version_of new) (versions_from before (suc w.number) (Some w)) (versions_from after (suc w.number) (Some v)) = rw (is, also) at (cut (suc w.number)) in
          let P : ℕ → Type 0 = λ n. IsSameOrCut (version_of new) (versions_from before (suc w.number) (Some w)) (versions_from after (suc n) (Some v)) in
          let Q : Bool → Type 0 = λ b. IsSameOrCut (version_of new) (if b then versions_from before (suc w.number) (Some w) else []) (versions_from after (suc v.number) (Some v)) in
          let R : Bool → Type 0 = λ b. IsSameOrCut (version_of new) (chain_from before (Some w)) (if b then versions_from after (suc v.number) (Some v) else []) in
          subst R (sym (kept.0 ∙ top_flag)) (subst Q (sym top_flag) (subst P (sym kept.1) walk))

  pub cut_chains : (relation row : ℕ) → IsSameOrCut (version_of new) (chain before relation row) (chain after relation row)
  cut_chains relation row = rw (row_after one relation row) (go (data_of before relation (row / cells_of before relation)))
    where
      go : (found : Option ℕ) → IsSameOrCut (version_of new)
          (chain_from before (option_and_then (λ (p : ℕ). cell_at before p (row % cells_of before relation)) found))
          (chain_from after (option_and_then (λ (p : ℕ). cell_at after p (row % cells_of before relation)) found))
      go None = inl refl
      go (Some other) =
          from_start other (row % cells_of before relation) _ refl _ refl (here_or_not page cell other (row % cells_of before relation))
          (λ count. cut_from one (ap (λ (v : Cell). v.back_page) same) (ap version_of same) count other (row % cells_of before relation))
