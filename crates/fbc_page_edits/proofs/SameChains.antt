-- Two views with the same versions have the same chains.
use Rattle.std.proofs.Common.{◌≡◌, ◌==◌, ◌/◌, ◌%◌, ℕ, zero, suc, Bool, true, false, if◌then◌else◌, List, [], ◌∷◌, Option, Some, None, refl, sym, ap, ◌∙◌}
use Rattle.std.specs.Option.{option_and_then}
use Rattle.std.proofs.lemmas.Option.{option_and_then_some, same_Some}
use Rattle.fbc_kinds.specs.declared.pages.Cell.{Cell}
use Rattle.fbc_kinds.specs.Chain.{Version, cells_of, chain, chain_from, row_cell, version_of, versions_from}
use Rattle.fbc_kinds.specs.Reach.{DataRole, Reaches, ReachesCell, along, top}
use Rattle.fbc_kinds.specs.Sound.{IsSound}
use Rattle.fbc_kinds.specs.View.{View, cell_at, data_of, is_top}
use Rattle.fbc_page_edits.specs.Alike.{HaveSameChains}
use Rattle.fbc_page_edits.proofs.SameVersions.{HaveSameVersions, reached_same, top_holds}

-- A row's cell stands in a data page of the row's sequence.
pub record IsRowCell (view : View) (relation row : ℕ) (version : Cell) : Type 0 where
  pub page : ℕ
  pub named : Reaches view (DataRole relation (row / cells_of view relation)) page
  pub stands : cell_at view page (row % cells_of view relation) ≡ Some version

pub row_cell_stands : (view : View) (relation row : ℕ) (version : Cell) → row_cell view relation row ≡ Some version → IsRowCell view relation row version
row_cell_stands view relation row version is =
    option_and_then_some (λ (page : ℕ). cell_at view page (row % cells_of view relation)) (data_of view relation (row / cells_of view relation)) version is
    (λ page named stands. record { page = page; named = named; stands = stands })

pub row_cell_from : (view : View) (relation row : ℕ) (version : Cell) → IsRowCell view relation row version → row_cell view relation row ≡ Some version
row_cell_from view relation row version is =
    ap (option_and_then (λ (page : ℕ). cell_at view page (row % cells_of view relation))) is.named ∙ is.stands

-- The top of a row is reached.
pub row_top_reached : (view : View) (relation row : ℕ) (version : Cell) (is : IsRowCell view relation row version) → is_top version.flag ≡ true → ReachesCell view relation is.page (row % cells_of view relation)
row_top_reached view relation row version is is_top_of = top (row / cells_of view relation) is.page (row % cells_of view relation) version is.named is.stands is_top_of

-- A chain begins at a top, and nowhere else.
pub chain_of_top : (view : View) (version : Cell) → is_top version.flag ≡ true → chain_from view (Some version) ≡ versions_from view (suc version.number) (Some version)
chain_of_top view version is = rw is refl

pub chain_of_other : (view : View) (version : Cell) → is_top version.flag ≡ false → chain_from view (Some version) ≡ []
chain_of_other view version is = rw is refl

-- Chains that begin at the same tops, and go on in the same way, are the same.
pub chains_from_tops : (before after : View) (old new : Option Cell)
    → ((version : Cell) → is_top version.flag ≡ true → old ≡ Some version → new ≡ Some version)
    → ((version : Cell) → is_top version.flag ≡ true → new ≡ Some version → old ≡ Some version)
    → ((version : Cell) → is_top version.flag ≡ true → old ≡ Some version → versions_from after (suc version.number) (Some version) ≡ versions_from before (suc version.number) (Some version))
    → chain_from after new ≡ chain_from before old
chains_from_tops before after None None kept no_more walk = refl
chains_from_tops before after None (Some version) kept no_more walk = go (is_top version.flag) refl
  where
    go : (b : Bool) → is_top version.flag ≡ b → chain_from after (Some version) ≡ []
    go true is = let no : None ≡ Some version = no_more version is refl in cc
    go false is = chain_of_other after version is
chains_from_tops before after (Some old) new kept no_more walk = go (is_top old.flag) refl
  where
    none : (o : Option Cell) → new ≡ o → is_top old.flag ≡ false → chain_from after o ≡ []
    none None here is = refl
    none (Some version) here is = other (is_top version.flag) refl
      where
        other : (b : Bool) → is_top version.flag ≡ b → chain_from after (Some version) ≡ []
        other true also =
            let same : Some old ≡ Some version = no_more version also here in
            let both : is_top old.flag ≡ true = ap (λ (v : Cell). is_top v.flag) (same_Some old version same) ∙ also in
            cc
        other false also = chain_of_other after version also

    go : (b : Bool) → is_top old.flag ≡ b → chain_from after new ≡ chain_from before (Some old)
    go true is = ap (chain_from after) (kept old is refl) ∙ chain_of_top after old is ∙ walk old is refl ∙ sym (chain_of_top before old is)
    go false is = none new refl is ∙ sym (chain_of_other before old is)

module _ (before after : View) (sound : IsSound before) (same : HaveSameVersions before after) where
  -- From a cell that is reached so many versions follow in both views.
  abbrev pub GoesOn : ℕ → ℕ → ℕ → ℕ → Type 0
  GoesOn count relation page cell = (version : Cell) → ReachesCell before relation page cell → cell_at before page cell ≡ Some version
      → versions_from after count (Some version) ≡ versions_from before count (Some version)

  -- Below a cell that is reached the same versions follow.
  pub walk_same : (count relation page cell : ℕ) → GoesOn count relation page cell
  walk_same zero relation page cell version reached stands = refl
  walk_same (suc count) relation page cell version reached stands = ap (λ (older : List Version). version_of version ∷ older) (go (version.back_page == 0) refl (walk_same count relation version.back_page version.back_cell))
    where
      none : (count : ℕ) → versions_from after count None ≡ versions_from before count None
      none zero = refl
      none (suc count) = refl

      linked : (o : Option Cell) → cell_at before version.back_page version.back_cell ≡ o → ReachesCell before relation version.back_page version.back_cell → GoesOn count relation version.back_page version.back_cell
          → versions_from after count o ≡ versions_from before count o
      linked None there at later = none count
      linked (Some back) there at later = later back at there

      go : (b : Bool) → (version.back_page == 0) ≡ b → GoesOn count relation version.back_page version.back_cell
          → versions_from after count (if b then None else cell_at after version.back_page version.back_cell) ≡ versions_from before count (if b then None else cell_at before version.back_page version.back_cell)
      go true is later = none count
      go false is later =
          let at = along page cell version.back_page version.back_cell version reached stands (record { some = is; page_is = refl; cell_is = refl }) in
          rw (reached_same before after sound same relation version.back_page version.back_cell at) (linked (cell_at before version.back_page version.back_cell) refl at later)

  -- A row has the same top.
  module _ (relation row : ℕ) (cells : cells_of after relation ≡ cells_of before relation) where
    top_kept : (version : Cell) → is_top version.flag ≡ true → row_cell before relation row ≡ Some version → row_cell after relation row ≡ Some version
    top_kept version is_top_of is =
        let here = row_cell_stands before relation row version is in
        let there = same.kept relation (row / cells_of before relation) here.page (row % cells_of before relation) version (record { named = here.named; stands = here.stands; holds = top_holds version.flag is_top_of }) in
        row_cell_from after relation row version (record { page = here.page; named = rw cells there.named; stands = rw cells there.stands })

    top_no_more : (version : Cell) → is_top version.flag ≡ true → row_cell after relation row ≡ Some version → row_cell before relation row ≡ Some version
    top_no_more version is_top_of is =
        let here = row_cell_stands after relation row version is in
        let there = same.no_more relation (row / cells_of after relation) here.page (row % cells_of after relation) version (record { named = here.named; stands = here.stands; holds = top_holds version.flag is_top_of }) in
        row_cell_from before relation row version (record { page = here.page; named = rw (sym cells) there.named; stands = rw (sym cells) there.stands })

    top_walk : (version : Cell) → is_top version.flag ≡ true → row_cell before relation row ≡ Some version → versions_from after (suc version.number) (Some version) ≡ versions_from before (suc version.number) (Some version)
    top_walk version is_top_of is =
        let here = row_cell_stands before relation row version is in
        walk_same (suc version.number) relation here.page (row % cells_of before relation) version (row_top_reached before relation row version here is_top_of) here.stands

    pub chain_same : chain after relation row ≡ chain before relation row
    chain_same = chains_from_tops before after (row_cell before relation row) (row_cell after relation row) top_kept top_no_more top_walk

  pub chains_same : ((relation : ℕ) → cells_of after relation ≡ cells_of before relation) → HaveSameChains before after
  chains_same cells relation row = chain_same relation row (cells relation)
