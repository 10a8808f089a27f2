-- The numbers in a chain of a sound view are transactions' numbers, below the next.
use Rattle.std.proofs.Common.{◌≡◌, ◌∙◌, ◌<◌, ◌≤◌, ◌==◌, ℕ, zero, suc, Bool, true, false, List, [], refl, sym, ap, arith, subst}
use Rattle.std.specs.Prelude.{Option, Some, None, All, if◌then◌else◌}
use Rattle.std.proofs.lemmas.List.Elements.{All-cons, All-get_or, All-nil, All-same}
use Rattle.std.proofs.lemmas.Option.{get_or_from_slice_get, slice_get_within}
use Rattle.fbc_kinds.specs.declared.pages.Cell.{Cell}
use Rattle.fbc_kinds.specs.declared.pages.Flag.{Flag}
use Rattle.fbc_kinds.specs.declared.pages.Flag.TheVariants as flag
use Rattle.fbc_kinds.specs.declared.pages.Page.{Page}
use Rattle.fbc_kinds.specs.declared.pages.Page.TheVariants as kind
use Rattle.fbc_kinds.specs.declared.shapes.Shape.{Shape}
use Rattle.fbc_kinds.specs.Chain.{Version, below, chain, chain_from, row_cell, version_of, versions_from}
use Rattle.fbc_kinds.specs.DataSpelling.{IsCell, IsContent}
use Rattle.fbc_kinds.specs.Edits.{value_length}
use Rattle.fbc_kinds.specs.Reach.{ReachesCell}
use Rattle.fbc_kinds.specs.Sound.{IsSound}
use Rattle.fbc_kinds.specs.View.{View, cell_at, cell_in, is_empty, is_top, next_of}
use Rattle.fbc_page_edits.specs.Edited.{IsOfShape}
use Rattle.fbc_page_edits.proofs.SameChains.{row_cell_stands, row_top_reached}
use Rattle.fbc_page_edits.proofs.SameVersions.{reached_holds}
use Rattle.fbc_version_edits.proofs.Chains.{below_none, below_reached, below_some, no_versions}

-- A version has a transaction's number, which is at most the next.
abbrev pub IsBegun : View → Version → Type 0
IsBegun view version = (0 < version.number) × (version.number ≤ next_of view)

abbrev pub AreBegun : View → List Version → Type 0
AreBegun view versions = All (IsBegun view) versions

above_zero : (f : Flag) (greatest : ℕ) (content : Cell) → IsContent f greatest content → is_empty f ≡ false → 0 < content.number
above_zero flag.Empty greatest content is some = cc
above_zero flag.Primary greatest content is some = is.0.numbered
above_zero flag.Deletion greatest content is some = is.0.numbered
above_zero flag.Back greatest content is some = is.0.numbered

module _ (shape : Shape) (view : View) (of_shape : IsOfShape shape view) (sound : IsSound view) where
  pub cell_above : (page cell : ℕ) (version : Cell) → cell_at view page cell ≡ Some version → is_empty version.flag ≡ false → 0 < version.number
  cell_above page cell version stands some = go (view page) refl stands
    where
      go : (found : Option Page) → view page ≡ found → cell_in found cell ≡ Some version → 0 < version.number
      go (Some (kind.Data d)) is at =
          let each = (of_shape.within page (kind.Data d) is).each in
          let P : Cell → Type 0 = IsCell (value_length shape d.relation) in
          let fits : IsCell (value_length shape d.relation) version =
          subst P (get_or_from_slice_get d.cells cell version version at) (All-get_or P d.cells cell version (slice_get_within d.cells cell version at) each) in
          above_zero version.flag (value_length shape d.relation) version fits some
      go _ is at = cc

  reached_begun : (relation page cell : ℕ) (version : Cell) → ReachesCell view relation page cell → cell_at view page cell ≡ Some version → (0 < version.number) × (version.number ≤ next_of view)
  reached_begun relation page cell version reached stands =
      let holder = reached_holds view sound relation page cell reached in
      let same : holder.version ≡ version = (let both : Some holder.version ≡ Some version = sym holder.is.stands ∙ stands in cc) in
      let some : is_empty version.flag ≡ false = ap (λ (v : Cell). is_empty v.flag) (sym same) ∙ holder.is.holds in
      let less : version.number < next_of view = sound.numbers relation holder.sequence page cell version holder.is.named stands some in
      (cell_above page cell version stands some, omega arith)

  begun_from : (count relation page cell : ℕ) (version : Cell) → ReachesCell view relation page cell → cell_at view page cell ≡ Some version → AreBegun view (versions_from view count (Some version))
  begun_from zero relation page cell version reached stands = All-nil (IsBegun view)
  begun_from (suc count) relation page cell version reached stands =
      All-cons (IsBegun view) (version_of version) (versions_from view count (below view version)) (reached_begun relation page cell version reached stands)
      (go (version.back_page == 0) refl (λ w. begun_from count relation version.back_page version.back_cell w))
    where
      next : (found : Option Cell) → cell_at view version.back_page version.back_cell ≡ found → (version.back_page == 0) ≡ false
          → ((w : Cell) → ReachesCell view relation version.back_page version.back_cell → cell_at view version.back_page version.back_cell ≡ Some w → AreBegun view (versions_from view count (Some w)))
          → AreBegun view (versions_from view count found)
      next None is some later = All-same (IsBegun view) _ _ (no_versions view count) (All-nil (IsBegun view))
      next (Some w) is some later = later w (below_reached view relation page cell version reached stands some) is

      go : (b : Bool) → (version.back_page == 0) ≡ b
          → ((w : Cell) → ReachesCell view relation version.back_page version.back_cell → cell_at view version.back_page version.back_cell ≡ Some w → AreBegun view (versions_from view count (Some w)))
          → AreBegun view (versions_from view count (below view version))
      go true is later =
          All-same (IsBegun view) _ _ (ap (versions_from view count) (below_none view version is) ∙ no_versions view count)
          (All-nil (IsBegun view))
      go false is later =
          All-same (IsBegun view) _ _ (ap (versions_from view count) (below_some view version is))
          (next (cell_at view version.back_page version.back_cell) refl is later)

  pub chain_begun : (relation row : ℕ) → AreBegun view (chain view relation row)
  chain_begun relation row = go (row_cell view relation row) refl
    where
      go : (found : Option Cell) → row_cell view relation row ≡ found → AreBegun view (chain_from view found)
      go None is = All-nil (IsBegun view)
      go (Some version) is = by (is_top version.flag) refl
        where
          by : (b : Bool) → is_top version.flag ≡ b → AreBegun view (if b then versions_from view (suc version.number) (Some version) else [])
          by false not_top = All-nil (IsBegun view)
          by true top_is =
              let at = row_cell_stands view relation row version is in
              begun_from (suc version.number) relation at.page _ version (row_top_reached view relation row version at top_is) at.stands
