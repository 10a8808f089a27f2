-- A mark that is set in the row of a page is one of that page.
use Rattle.std.proofs.Common.{◌≡◌, ℕ, zero, suc, ◌<◌, ◌==◌, ◌&&◌, Bool, true, false, cond, if◌then◌else◌, List, [], ◌∷◌, length, nat_eq, slice_get, slice_set, Option, Some, None, refl, sym, ap, ◌∙◌, arith, true≢false}
use Rattle.std.specs.Global.{Vec}
use Rattle.std.proofs.lemmas.List.Quantifiers.{position-Some}
use Rattle.std.proofs.lemmas.Bool.Decides.{nat_tests}
use Rattle.indexmap.specs.IndexMap.{index_of, keys}
use Rattle.fbc_kinds.proofs.Tests.{same_from_test, test_of_same}
use Rattle.fbc_links.specs.Chains.{is_same_place, namer, namer_in, place_of}
use Rattle.fbc_links.specs.Namers.{mark_at, mark_in, marks_of, namer_at}
use Rattle.fbc_links.specs.declared.chains.Chains.{Chains}
use Rattle.fbc_links.specs.declared.namers.Namers.{Namers}
use Rattle.fbc_links.specs.declared.namers.Place.{Place}
use Rattle.fbc_reach.specs.declared.tally.Tally.{Tally}

abbrev Row : Type 0
Row = Vec (Option Place)

-- One row changed.
pub row_set : (rows : List Row) (own : ℕ) (row : Row) (index : ℕ) → own < length rows
    → marks_of (slice_get (slice_set rows own row) index) ≡ (if own == index then row.items else marks_of (slice_get rows index))
row_set [] own row index within = absurd (omega arith)
row_set (x ∷ xs) zero row zero within = refl
row_set (x ∷ xs) zero row (suc index) within = let differ : (0 == suc index) ≡ false = grind (arith, nat_tests) in rw differ refl
row_set (x ∷ xs) (suc own) row zero within = let differ : (suc own == 0) ≡ false = grind (arith, nat_tests) in rw differ refl
row_set (x ∷ xs) (suc own) row (suc index) within =
    let less : own < length xs = omega arith in
    let shift : (suc own == suc index) ≡ (own == index) = grind (arith, nat_tests) in
    rw shift (row_set xs own row index less)

-- A mark that is set in its row.
pub set_in_row : (old rows : List Row) (own cell : ℕ) (named : Place) (before after : Row) → own < length rows
    → ((i c : ℕ) → mark_at rows i c ≡ mark_at old i c)
    → slice_get rows own ≡ Some before
    → ((c : ℕ) → mark_in after.items c ≡ (if cell == c then Some named else mark_in before.items c))
    → (i c : ℕ) → mark_at (slice_set rows own after) i c ≡ (if (own == i) && (cell == c) then Some named else mark_at old i c)
set_in_row old rows own cell named before after within same stands marked i c =
    ap (λ marks. mark_in marks c) (row_set rows own after i within) ∙ go (own == i) refl ∙ ap (λ o. if (own == i) && (cell == c) then Some named else o) (same i c)
  where
    go : (b : Bool) → (own == i) ≡ b
        → mark_in (if b then after.items else marks_of (slice_get rows i)) c ≡ (if b && (cell == c) then Some named else mark_at rows i c)
    go false other = refl
    go true is =
        let here : mark_in before.items c ≡ mark_at rows i c =
        ap (λ o. mark_in (marks_of o) c) (sym stands) ∙ ap (λ k. mark_at rows k c) (same_from_test own i is) in
        marked c ∙ ap (λ o. if cell == c then Some named else o) here

-- Two pages have not one index.
same_page : (tally : Tally) (a b index : ℕ) → index_of nat_eq tally.pages a ≡ Some index → index_of nat_eq tally.pages b ≡ Some index → a ≡ b
same_page tally a b index at_a at_b =
    let first = position-Some (nat_eq a) (keys tally.pages) index 0 at_a in
    let second = position-Some (nat_eq b) (keys tally.pages) index 0 at_b in
    same_from_test a _ first.1 ∙ sym (same_from_test b _ second.1)

-- A mark that is set by the index of a page is set in that page.
module _ (old : Chains) (to : Place) (index : ℕ) (at : index_of nat_eq old.walked.tally.now.pages to.page ≡ Some index) where
  abbrev place : ℕ → Option ℕ
  place page = index_of nat_eq old.walked.tally.now.pages page

  pub namer_by_index : namer old to.page to.cell ≡ namer_at old.namers index to.cell
  namer_by_index = ap (λ o. namer_in old.namers o to.cell) at

  pub mark_by_page : (from : Place) (new : Namers)
      → ((i c : ℕ) → namer_at new i c ≡ (if (index == i) && (to.cell == c) then Some from else namer_at old.namers i c))
      → (page cell : ℕ) → namer_in new (place page) cell ≡ cond (is_same_place to (place_of page cell)) (Some from) (namer old page cell)
  mark_by_page from new set page cell = go (place page) refl (to.page == page) refl
    where
      go : (o : Option ℕ) → place page ≡ o → (same : Bool) → (to.page == page) ≡ same
          → namer_in new o cell ≡ cond (same && (to.cell == cell)) (Some from) (namer_in old.namers o cell)
      go None none true same = (let found : None ≡ Some index = sym none ∙ ap place (sym (same_from_test to.page page same)) ∙ at in cc)
      go None none false other = refl
      go (Some i) found same is = set i cell ∙ by same is (index == i) refl
        where
          by : (same : Bool) → (to.page == page) ≡ same → (own : Bool) → (index == i) ≡ own
              → (if own && (to.cell == cell) then Some from else namer_at old.namers i cell) ≡ cond (same && (to.cell == cell)) (Some from) (namer_at old.namers i cell)
          by true same true own = refl
          by false other false differ = refl
          by true same false differ =
              let one : Some index ≡ Some i = sym at ∙ ap place (same_from_test to.page page same) ∙ found in
              let equal : index ≡ i = cc in
              absurd (true≢false (sym (test_of_same index i equal) ∙ differ))
          by false other true own =
              let moved : place page ≡ Some index = found ∙ ap Some (sym (same_from_test index i own)) in
              absurd (true≢false (sym (test_of_same to.page page (same_page old.walked.tally.now to.page page index at moved)) ∙ other))
