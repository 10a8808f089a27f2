-- Each page of the small files is within its limits, and stands under its own number.
use Rattle.std.proofs.Common.{◌≡◌, ◌<◌, ◌≤◌, ◌++◌, ◌-◌, ℕ, zero, suc, Bool, true, false, List, [], ◌∷◌, Option, Some, None, refl, sym, ◌∙◌, arith, length, slice_get}
use Rattle.std.specs.Prelude.{replicate, unwrap_or}
use Rattle.std.specs.List.{All, list_all}
use Rattle.std.proofs.lemmas.List.Elements.{All-cons, All-replicate}
use Rattle.std.proofs.lemmas.Option.{same_Some}
use Rattle.fbc_kinds.specs.declared.pages.Cell.{Cell}
use Rattle.fbc_kinds.specs.declared.pages.Page.{Page}
use Rattle.fbc_kinds.specs.declared.pages.Page.TheVariants as kind
use Rattle.fbc_kinds.specs.declared.pages.State.{State}
use Rattle.fbc_kinds.specs.declared.shapes.Shape.{Shape}
use Rattle.fbc_kinds.specs.View.{View}
use Rattle.fbc_kinds.specs.declared.pages.State.TheVariants as state
use Rattle.fbc_kinds.specs.declared.pages.State.TheVariants.{Active, Committed, Limbo}
use Rattle.fbc_kinds.specs.DataSpelling.{IsCell, IsVersion, empty_cell}
use Rattle.fbc_kinds.specs.Edits.{IsWithinLimits}
use Rattle.fbc_kinds.specs.File.{stands_under}
use Rattle.fbc_kinds.specs.HeaderSpelling.{IsHeader, IsRelation}
use Rattle.fbc_kinds.specs.Limits.{number_limit}
use Rattle.fbc_examples.specs.Files.{data_file, data_page, deletion, empty_file, first_cells, header, header_page, inventory_page, new_file, old_value, over, pointer_page, relation, row_file, small_shape, tip_page, value, worn_cells, worn_file}
use Rattle.fbc_examples.proofs.SmallViews.{one_relation, passes_at}

-- Each page of a file is within its limits, and stands under its own number.
abbrev pub HasWholePages : Shape → View → Type 0
HasWholePages shape file = (number : ℕ) (content : Page) → file number ≡ Some content → IsWithinLimits shape content × (stands_under number content ≡ true)

first_place : (i : ℕ) → i < 1 → i ≡ 0
first_place i below = omega arith

abbrev pub Fits : ℕ → Page → Type 0
Fits number content = IsWithinLimits small_shape content × (stands_under number content ≡ true)

-- Pages behind the last are blank.
pub in_place : (number : ℕ) (content : Page) (place : Option Page) → ((page : Page) → place ≡ Some page → Fits number page) → Some (unwrap_or place kind.Blank) ≡ Some content → Fits number content
in_place number content None each same = rw (← same_Some kind.Blank content same) (tt, refl)
in_place number content (Some page) each same = rw (← same_Some page content same) (each page refl)

whole_relation : IsRelation relation
whole_relation = record {
  name = refl;
  value_from = omega arith;
  value_to = omega arith;
  pointers_from = omega arith;
  pointers_to = omega arith;
  pointers = λ i below. rw (first_place i below) (record { names = omega arith; below = omega arith });
}

pub whole_header : (next : ℕ) → 1 ≤ next → next ≤ 4032 → IsHeader 1024 (header next)
whole_header next from to = record {
  page_size = refl;
  next_from = from;
  next_to = omega arith;
  next_stands = to;
  relations_from = omega arith;
  relations_to = omega arith;
  inventories_from = omega arith;
  inventories_to = omega arith;
  tips_from = omega arith;
  tips_to = omega arith;
  relations = λ i r at. rw (one_relation i r at).1 whole_relation;
  names = λ i j r s at also same. (one_relation i r at).0 ∙ sym (one_relation j s also).0;
  tips = λ i below. rw (first_place i below) (record { names = omega arith; below = omega arith });
  oldest = refl;
}

-- Whether a number is not in limbo.
abbrev pub is_settled : State → Bool
is_settled state.Limbo = false
is_settled _ = true

pub no_limbo : (states : List State) → list_all is_settled states ≡ true → (i : ℕ) → slice_get states i ≡ Some Limbo → ⊥
no_limbo states all i at = let settled : is_settled Limbo ≡ true = passes_at is_settled states i Limbo all at in cc

pub whole_new : (number : ℕ) (page : Page) → slice_get (header_page 1 ∷ inventory_page 4 ∷ tip_page [] ∷ pointer_page 0 ∷ []) number ≡ Some page → Fits number page
whole_new zero page at = rw (← same_Some _ page at) (whole_header 1 (omega arith) (omega arith), refl)
whole_new (suc zero) page at = rw (← same_Some _ page at) (record { page = omega arith; sequence = omega arith; count = refl; own = λ same. refl; header = λ same. refl }, refl)
whole_new (suc (suc zero)) page at =
    rw (← same_Some _ page at) (record { page = omega arith; sequence = omega arith; count = refl; zero = λ same. refl; state = no_limbo (replicate 4032 Active) refl }, refl)
whole_new (suc (suc (suc zero))) page at =
    rw (← same_Some _ page at) (
      record {
        page_fits = omega arith;
        sequence_fits = omega arith;
        relation_fits = omega arith;
        count = refl;
        slots_fit = All-replicate (λ number. number < number_limit) 252 0 (omega arith);
      },
      refl,
    )
whole_new (suc (suc (suc (suc number)))) page at = cc

pub whole_new_file : HasWholePages small_shape new_file
whole_new_file number content is =
    in_place number content (slice_get (header_page 1 ∷ inventory_page 4 ∷ tip_page [] ∷ pointer_page 0 ∷ []) number) (whole_new number) is

-- What makes the pages of a file with one data page whole.
record IsWhole (next : ℕ) (states : List State) (cells : List Cell) : Type 0 where
  from : 1 ≤ next
  to : next ≤ 4032
  count : length (states ++ replicate (4032 - length states) Active) ≡ 4032
  zero_active : slice_get (states ++ replicate (4032 - length states) Active) 0 ≡ Some Active
  settled : list_all is_settled (states ++ replicate (4032 - length states) Active) ≡ true
  places : length cells ≡ 45
  each : All (IsCell 10) cells

module _ (next : ℕ) (states : List State) (cells : List Cell) (whole : IsWhole next states cells) where
  abbrev pages : List Page
  pages = header_page next ∷ inventory_page 5 ∷ tip_page states ∷ pointer_page 4 ∷ data_page cells ∷ []

  whole_data : (number : ℕ) (page : Page) → slice_get pages number ≡ Some page → Fits number page
  whole_data zero page at = rw (← same_Some _ page at) (whole_header next whole.from whole.to, refl)
  whole_data (suc zero) page at = rw (← same_Some _ page at) (record { page = omega arith; sequence = omega arith; count = refl; own = λ same. refl; header = λ same. refl }, refl)
  whole_data (suc (suc zero)) page at =
      rw (← same_Some _ page at)
      (record { page = omega arith; sequence = omega arith; count = whole.count; zero = λ same. whole.zero_active; state = no_limbo (states ++ replicate (4032 - length states) Active) whole.settled }, refl)
  whole_data (suc (suc (suc zero))) page at =
      rw (← same_Some _ page at) (
        record {
          page_fits = omega arith;
          sequence_fits = omega arith;
          relation_fits = omega arith;
          count = refl;
          slots_fit = All-cons (λ number. number < number_limit) 4 (replicate 251 0) (omega arith) (All-replicate (λ number. number < number_limit) 251 0 (omega arith));
        },
        refl,
      )
  whole_data (suc (suc (suc (suc zero)))) page at =
      rw (← same_Some _ page at)
      (record { page_fits = omega arith; sequence_fits = omega arith; relation_fits = omega arith; count = whole.places; each = whole.each }, refl)
  whole_data (suc (suc (suc (suc (suc number))))) page at = cc

  whole_file : HasWholePages small_shape (data_file next states cells)
  whole_file number content is = in_place number content (slice_get pages number) (whole_data number) is

-- Empty cells, and the versions of the files.
pub none_there : (count : ℕ) → All (IsCell 10) (replicate count empty_cell)
none_there count = All-replicate (IsCell 10) count empty_cell refl

pub version_fits : (version : Cell) → 0 < version.number → version.number < 5 → version.back_page < 6 → version.back_cell < 5 → (version.back_page ≡ 0 → version.back_cell ≡ 0) → IsVersion version
version_fits version some few near low none = record { numbered = some; number_fits = omega arith; back_page_fits = omega arith; back_cell_fits = omega arith; back = none }

pub value_fits : (number byte : ℕ) → 0 < number → number < 5 → IsCell 10 (value number byte)
value_fits number byte some few = (version_fits (value number byte) some few (omega arith) (omega arith) (λ none. refl), omega arith, omega arith)

pub old_value_fits : (number byte : ℕ) → 0 < number → number < 5 → IsCell 10 (old_value number byte)
old_value_fits number byte some few = (version_fits (old_value number byte) some few (omega arith) (omega arith) (λ none. refl), omega arith, omega arith)

pub whole_empty_file : HasWholePages small_shape empty_file
whole_empty_file = whole_file 1 [] (first_cells []) (record {
  from = omega arith;
  to = omega arith;
  count = refl;
  zero_active = refl;
  settled = refl;
  places = refl;
  each = none_there 45;
})

pub whole_row_file : HasWholePages small_shape row_file
whole_row_file = whole_file 2 (Active ∷ Committed ∷ []) (first_cells (value 1 65 ∷ [])) (record {
  from = omega arith;
  to = omega arith;
  count = refl;
  zero_active = refl;
  settled = refl;
  places = refl;
  each = All-cons (IsCell 10) (value 1 65) (replicate 44 empty_cell) (value_fits 1 65 (omega arith) (omega arith)) (none_there 44);
})

worn_cells_fit : All (IsCell 10) worn_cells
worn_cells_fit =
    let behind = All-cons (IsCell 10) (value 4 68) (replicate 40 empty_cell) (value_fits 4 68 (omega arith) (omega arith)) (none_there 40) in
    let deleted = All-cons (IsCell 10) (deletion 3) (value 4 68 ∷ replicate 40 empty_cell) (version_fits (deletion 3) (omega arith) (omega arith) (omega arith) (omega arith) (λ none. refl), refl) behind in
    let oldest = All-cons (IsCell 10) (old_value 1 65) (deletion 3 ∷ value 4 68 ∷ replicate 40 empty_cell) (old_value_fits 1 65 (omega arith) (omega arith)) deleted in
    let old =
    All-cons (IsCell 10) (over 2 (old_value 2 66)) (old_value 1 65 ∷ deletion 3 ∷ value 4 68 ∷ replicate 40 empty_cell)
    (version_fits (over 2 (old_value 2 66)) (omega arith) (omega arith) (omega arith) (omega arith) (λ none. absurd (omega arith)), omega arith, omega arith)
    oldest in
    All-cons (IsCell 10) (over 1 (value 3 67)) (over 2 (old_value 2 66) ∷ old_value 1 65 ∷ deletion 3 ∷ value 4 68 ∷ replicate 40 empty_cell)
    (version_fits (over 1 (value 3 67)) (omega arith) (omega arith) (omega arith) (omega arith) (λ none. absurd (omega arith)), omega arith, omega arith)
    old

pub whole_worn_file : HasWholePages small_shape worn_file
whole_worn_file = whole_file 5 (Active ∷ Committed ∷ Committed ∷ Committed ∷ []) worn_cells (record {
  from = omega arith;
  to = omega arith;
  count = refl;
  zero_active = refl;
  settled = refl;
  places = refl;
  each = worn_cells_fit;
})
