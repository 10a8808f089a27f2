-- What holds of all versions of a chain, and of those below its top.
use Rattle.std.proofs.Common.{◌≡◌, ◌∙◌, ◌<◌, ◌==◌, ℕ, zero, suc, Bool, true, false, List, [], ◌∷◌, refl, sym, ap, if◌then◌else◌}
use Rattle.std.specs.Prelude.{Option, Some, None, All}
use Rattle.std.proofs.lemmas.List.Elements.{All-cons, All-nil, All-same}
use Rattle.fbc_kinds.specs.declared.pages.Cell.{Cell}
use Rattle.fbc_kinds.specs.Chain.{Version, below, chain, chain_from, row_cell, state_of, version_of, versions_from}
use Rattle.fbc_kinds.specs.Reach.{LinksTo, ReachesCell}
use Rattle.fbc_kinds.specs.Sound.{IsSound}
use Rattle.fbc_kinds.specs.View.{View, cell_at, is_committed_state, is_empty, is_top, next_of}
use Rattle.fbc_page_edits.proofs.SameChains.{row_cell_stands, row_top_reached}
use Rattle.fbc_page_edits.proofs.SameVersions.{back_holds, reached_holds}
use Rattle.fbc_version_edits.proofs.Chains.{below_none, below_reached, below_some, link_of}

-- The versions below the top.
abbrev pub older_of : List Version → List Version
older_of [] = []
older_of (version ∷ older) = older

module _ (view : View) (sound : IsSound view) (P : Version → Type 0)
    (linked : (relation page cell back_page back_cell : ℕ) (version back : Cell) → LinksTo view relation page cell version back_page back_cell → cell_at view back_page back_cell ≡ Some back → P (version_of back)) where
  -- It holds of all that a version that is reached leads to.
  all_below : (count relation page cell : ℕ) (version : Cell) → ReachesCell view relation page cell → cell_at view page cell ≡ Some version → All P (versions_from view count (below view version))
  all_below zero relation page cell version reached stands = All-nil P
  all_below (suc count) relation page cell version reached stands = go (version.back_page == 0) refl (λ w. all_below count relation version.back_page version.back_cell w)
    where
      go : (b : Bool) → (version.back_page == 0) ≡ b
          → ((w : Cell) → ReachesCell view relation version.back_page version.back_cell → cell_at view version.back_page version.back_cell ≡ Some w → All P (versions_from view count (below view w)))
          → All P (versions_from view (suc count) (below view version))
      go true is later = All-same P _ _ (ap (versions_from view (suc count)) (below_none view version is)) (All-nil P)
      go false is later =
          let link = link_of view relation page cell version reached stands is in
          let value = sound.back relation page cell version.back_page version.back_cell version link in
          All-same P _ _ (ap (versions_from view (suc count)) (below_some view version is ∙ value.stands))
          (All-cons P (version_of value.back) (versions_from view count (below view value.back)) (linked relation page cell version.back_page version.back_cell version value.back link value.stands)
          (later value.back (below_reached view relation page cell version reached stands is) value.stands))

  pub all_older : (relation row : ℕ) → All P (older_of (chain view relation row))
  all_older relation row = go (row_cell view relation row) refl
    where
      go : (found : Option Cell) → row_cell view relation row ≡ found → All P (older_of (chain_from view found))
      go None is = All-nil P
      go (Some version) is = by (is_top version.flag) refl
        where
          by : (b : Bool) → is_top version.flag ≡ b → All P (older_of (if b then versions_from view (suc version.number) (Some version) else []))
          by false not_top = All-nil P
          by true top_is =
              let at = row_cell_stands view relation row version is in
              all_below version.number relation at.page _ version (row_top_reached view relation row version at top_is) at.stands

  pub all_of_chain : ((relation page cell : ℕ) (version : Cell) → ReachesCell view relation page cell → cell_at view page cell ≡ Some version → P (version_of version)) → (relation row : ℕ) → All P (chain view relation row)
  all_of_chain first relation row = go (row_cell view relation row) refl
    where
      go : (found : Option Cell) → row_cell view relation row ≡ found → All P (chain_from view found)
      go None is = All-nil P
      go (Some version) is = by (is_top version.flag) refl
        where
          by : (b : Bool) → is_top version.flag ≡ b → All P (if b then versions_from view (suc version.number) (Some version) else [])
          by false not_top = All-nil P
          by true top_is =
              let at = row_cell_stands view relation row version is in
              let reached = row_top_reached view relation row version at top_is in
              All-cons P (version_of version) (versions_from view version.number (below view version)) (first relation at.page _ version reached at.stands)
              (all_below version.number relation at.page _ version reached at.stands)

module _ (view : View) (sound : IsSound view) where
  -- Below the top of a chain all is committed.
  pub older_committed : (relation row : ℕ) → All (λ (v : Version). is_committed_state (state_of view v.number) ≡ true) (older_of (chain view relation row))
  older_committed =
      all_older view sound (λ (v : Version). is_committed_state (state_of view v.number) ≡ true)
      (λ relation page cell back_page back_cell version back link stands. sound.below relation page cell back_page back_cell version back link stands)

  reached_below : (relation page cell : ℕ) (version : Cell) → ReachesCell view relation page cell → cell_at view page cell ≡ Some version → version.number < next_of view
  reached_below relation page cell version reached stands =
      let holder = reached_holds view sound relation page cell reached in
      let same : holder.version ≡ version = (let both : Some holder.version ≡ Some version = sym holder.is.stands ∙ stands in cc) in
      sound.numbers relation holder.sequence page cell version holder.is.named stands (ap (λ (v : Cell). is_empty v.flag) (sym same) ∙ holder.is.holds)

  -- The numbers of a chain are below the next one.
  pub chain_below_next : (relation row : ℕ) → All (λ (v : Version). v.number < next_of view) (chain view relation row)
  chain_below_next =
      all_of_chain view sound (λ (v : Version). v.number < next_of view)
      (λ relation page cell back_page back_cell version back link stands.
      let value = sound.back relation page cell back_page back_cell version link in
      let same : value.back ≡ back = (let both : Some value.back ≡ Some back = sym value.stands ∙ stands in cc) in
      sound.numbers relation value.sequence back_page back_cell back value.named stands (ap (λ (v : Cell). is_empty v.flag) (sym same) ∙ back_holds value.back.flag value.is_value))
      reached_below
