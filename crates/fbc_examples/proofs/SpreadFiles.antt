-- The file whose older versions stand on another page than their row is sound, and has whole pages.
use Rattle.std.proofs.Common.{◌≡◌, ◌==◌, ◌<◌, ◌+◌, ◌*◌, ◌∙◌, ℕ, zero, suc, true, false, ◌∷◌, [], List, Some, inl, inr, refl, sym, ap, arith, slice_get}
use Rattle.std.specs.Prelude.{◌⊎◌, replicate}
use Rattle.std.specs.List.{All}
use Rattle.std.proofs.lemmas.Bool.{ltb-true}
use Rattle.std.proofs.lemmas.List.Elements.{All-cons, All-replicate}
use Rattle.std.proofs.lemmas.Option.{same_Some}
use Rattle.fbc_kinds.specs.declared.pages.Cell.{Cell}
use Rattle.fbc_kinds.specs.declared.pages.Page.{Page}
use Rattle.fbc_kinds.specs.declared.pages.State.{State}
use Rattle.fbc_kinds.specs.declared.pages.State.TheVariants.{Active, Committed}
use Rattle.fbc_kinds.specs.Chain.{state_of}
use Rattle.fbc_kinds.specs.DataSpelling.{IsCell, empty_cell}
use Rattle.fbc_kinds.specs.Limits.{number_limit}
use Rattle.fbc_kinds.specs.Reach.{DataRole, LinksTo, Reaches, Role, TipRole, shows_role}
use Rattle.fbc_kinds.specs.Sound.{IsBackValue, IsSound}
use Rattle.fbc_kinds.specs.View.{cell_at, is_active_state, is_committed_state, is_empty, is_taken, state_in}
use Rattle.fbc_kinds.proofs.Roles.{reached_once}
use Rattle.fbc_examples.specs.Files.{header_page, inventory_page, data_page, old_value, over_far, second_data_page, small_shape, spread_cells, spread_file, spread_others, tip_page, value, wide_pointer_page}
use Rattle.fbc_examples.proofs.SmallViews.{passes_at}
use Rattle.fbc_examples.proofs.SoundFiles.{active_behind, is_below, none_behind, plain}
use Rattle.fbc_examples.proofs.WholePages.{Fits, HasWholePages, in_place, no_limbo, none_there, old_value_fits, value_fits, version_fits, whole_header}
use Rattle.fbc_examples.proofs.WideViews.{IsOneOfTwo, IsWidePlace, stands_first, stands_second, wide_data, wide_place, wide_reached, wide_tip}

spread_fits : (role : Role) (page : ℕ) → IsWidePlace role page → (shows_role role page (spread_file page) ≡ true) × (is_taken spread_file page ≡ true)
spread_fits role page IsWidePlace.header_place = (refl, refl)
spread_fits role page IsWidePlace.inventory_place = (refl, refl)
spread_fits role page IsWidePlace.tip_place = (refl, refl)
spread_fits role page IsWidePlace.pointer_place = (refl, refl)
spread_fits role page IsWidePlace.first_place = (refl, refl)
spread_fits role page IsWidePlace.second_place = (refl, refl)

spread_reached : (role : Role) (page : ℕ) → Reaches spread_file role page → (shows_role role page (spread_file page) ≡ true) × (is_taken spread_file page ≡ true)
spread_reached role page is = spread_fits role page (wide_place spread_file 4 refl refl role page is)

-- A link leads from this cell, in which this version stands, to that cell of page 5.
record IsLink (from_page from_cell : ℕ) (from : Cell) (to_cell page cell : ℕ) (version : Cell) (back_page back_cell : ℕ) : Type 0 where
  page_is : page ≡ from_page
  cell_is : cell ≡ from_cell
  version_is : version ≡ from
  back_page_is : back_page ≡ 5
  back_cell_is : back_cell ≡ to_cell

abbrev newest_version : Cell
newest_version = over_far 0 (value 3 67)

abbrev older_version : Cell
older_version = over_far 1 (old_value 2 66)

-- The newest version of the row names the older one, and that one the oldest.
abbrev IsOneLink : ℕ → ℕ → Cell → ℕ → ℕ → Type 0
IsOneLink page cell version back_page back_cell =
    IsLink 4 0 newest_version 0 page cell version back_page back_cell ⊎ IsLink 5 0 older_version 1 page cell version back_page back_cell

first_names : (cell : ℕ) (version : Cell) → slice_get spread_cells cell ≡ Some version → (version.back_page == 0) ≡ false → (cell ≡ 0) × (version ≡ newest_version)
first_names zero version at some = (refl, sym (same_Some newest_version version at))
first_names (suc zero) version at some = absurd (plain (value 3 68) version (same_Some _ _ at) refl some)
first_names (suc (suc cell)) version at some = absurd (none_behind 43 cell version at some)

second_names : (cell : ℕ) (version : Cell) → slice_get spread_others cell ≡ Some version → (version.back_page == 0) ≡ false → (cell ≡ 0) × (version ≡ older_version)
second_names zero version at some = (refl, sym (same_Some older_version version at))
second_names (suc zero) version at some = absurd (plain (old_value 1 65) version (same_Some _ _ at) refl some)
second_names (suc (suc cell)) version at some = absurd (none_behind 43 cell version at some)

link_is : (number page cell back_page back_cell : ℕ) (version : Cell) → LinksTo spread_file number page cell version back_page back_cell → (number ≡ 0) × IsOneLink page cell version back_page back_cell
link_is number page cell back_page back_cell version links = (held.0, go held.1) where
  held : (number ≡ 0) × ((page ≡ 4) ⊎ (page ≡ 5))
  held = wide_reached spread_file 4 spread_cells spread_others refl refl refl refl refl refl number page cell links.reached

  go : (page ≡ 4) ⊎ (page ≡ 5) → IsOneLink page cell version back_page back_cell
  go (inl first) =
      let found = first_names cell version (stands_first spread_file 4 spread_cells spread_others refl refl refl refl refl refl page cell version first links.stands) links.names.some in
      inl (record {
        page_is = first;
        cell_is = found.0;
        version_is = found.1;
        back_page_is = sym links.names.page_is ∙ ap (λ (v : Cell). v.back_page) found.1;
        back_cell_is = sym links.names.cell_is ∙ ap (λ (v : Cell). v.back_cell) found.1;
      })
  go (inr second) =
      let found = second_names cell version (stands_second spread_file 4 spread_cells spread_others refl refl refl refl refl refl page cell version second links.stands) links.names.some in
      inr (record {
        page_is = second;
        cell_is = found.0;
        version_is = found.1;
        back_page_is = sym links.names.page_is ∙ ap (λ (v : Cell). v.back_page) found.1;
        back_cell_is = sym links.names.cell_is ∙ ap (λ (v : Cell). v.back_cell) found.1;
      })

spread_back : (number page cell back_page back_cell : ℕ) (version : Cell) → LinksTo spread_file number page cell version back_page back_cell
    → IsBackValue spread_file number back_page back_cell version.number
spread_back number page cell back_page back_cell version links = go (link_is number page cell back_page back_cell version links).1 where
  only : number ≡ 0
  only = (link_is number page cell back_page back_cell version links).0

  go : IsOneLink page cell version back_page back_cell → IsBackValue spread_file number back_page back_cell version.number
  go (inl l) =
      rw (only, l.back_page_is, l.back_cell_is, l.version_is)
      (record { sequence = 1; back = older_version; named = refl; stands = refl; is_value = refl; smaller = omega arith })
  go (inr l) =
      rw (only, l.back_page_is, l.back_cell_is, l.version_is)
      (record { sequence = 1; back = old_value 1 65; named = refl; stands = refl; is_value = refl; smaller = omega arith })

spread_back_once : (number page cell other_number other_page other_cell back_page back_cell : ℕ) (version other : Cell)
    → LinksTo spread_file number page cell version back_page back_cell → LinksTo spread_file other_number other_page other_cell other back_page back_cell
    → (page ≡ other_page) × (cell ≡ other_cell)
spread_back_once number page cell other_number other_page other_cell back_page back_cell version other links others =
    go (link_is number page cell back_page back_cell version links).1 (link_is other_number other_page other_cell back_page back_cell other others).1 where
      go : IsOneLink page cell version back_page back_cell → IsOneLink other_page other_cell other back_page back_cell → (page ≡ other_page) × (cell ≡ other_cell)
      go (inl l) (inl o) = (l.page_is ∙ sym o.page_is, l.cell_is ∙ sym o.cell_is)
      go (inl l) (inr o) = absurd (omega (arith, l.back_cell_is, o.back_cell_is))
      go (inr l) (inl o) = absurd (omega (arith, l.back_cell_is, o.back_cell_is))
      go (inr l) (inr o) = (l.page_is ∙ sym o.page_is, l.cell_is ∙ sym o.cell_is)

spread_numbers : (number sequence page cell : ℕ) (version : Cell) → Reaches spread_file (DataRole number sequence) page → cell_at spread_file page cell ≡ Some version
    → is_empty version.flag ≡ false → version.number < 4
spread_numbers number sequence page cell version is stands some = ltb-true version.number 4 (go (wide_data spread_file 4 refl refl number sequence page is).1) where
  go : IsOneOfTwo sequence page → is_below 4 version ≡ true
  go (inl one) = passes_at (is_below 4) spread_cells cell version refl (stands_first spread_file 4 spread_cells spread_others refl refl refl refl refl refl page cell version one.1 stands)
  go (inr two) = passes_at (is_below 4) spread_others cell version refl (stands_second spread_file 4 spread_cells spread_others refl refl refl refl refl refl page cell version two.1 stands)

abbrev spread_states : List State
spread_states = Active ∷ Committed ∷ Committed ∷ Committed ∷ []

over_before : (place : ℕ) (state : State) → slice_get (Active ∷ Committed ∷ Committed ∷ Committed ∷ replicate 4028 Active) place ≡ Some state → is_active_state state ≡ false → place < 4
over_before zero state at over = omega arith
over_before (suc zero) state at over = omega arith
over_before (suc (suc zero)) state at over = omega arith
over_before (suc (suc (suc zero))) state at over = omega arith
over_before (suc (suc (suc (suc place)))) state at over = absurd (active_behind 4028 place state at over)

spread_over : (sequence page place : ℕ) (state : State) → Reaches spread_file (TipRole sequence) page → state_in (spread_file page) place ≡ Some state
    → is_active_state state ≡ false → sequence * 4032 + place < 4
spread_over sequence page place state is at over =
    let found = wide_tip spread_file 4 refl refl sequence page is in
    let below = over_before place state (rw found.1 at at) over in
    rw found.0 (omega arith)

spread_below : (number page cell back_page back_cell : ℕ) (version back : Cell) → LinksTo spread_file number page cell version back_page back_cell
    → cell_at spread_file back_page back_cell ≡ Some back → is_committed_state (state_of spread_file back.number) ≡ true
spread_below number page cell back_page back_cell version back links stands = go (link_is number page cell back_page back_cell version links).1 where
  go : IsOneLink page cell version back_page back_cell → is_committed_state (state_of spread_file back.number) ≡ true
  go (inl l) =
      let here : cell_at spread_file 5 0 ≡ Some back = rw (l.back_page_is, l.back_cell_is) at stands in
      rw (← same_Some older_version back here) refl
  go (inr l) =
      let here : cell_at spread_file 5 1 ≡ Some back = rw (l.back_page_is, l.back_cell_is) at stands in
      rw (← same_Some (old_value 1 65) back here) refl

pub sound_spread : IsSound spread_file
sound_spread = record {
  fitting = λ role page is. (spread_reached role page is).0;
  taken = λ role page is. (spread_reached role page is).1;
  once = reached_once spread_file (λ role page is. (spread_reached role page is).0);
  back = spread_back;
  back_once = spread_back_once;
  numbers = spread_numbers;
  states = spread_over;
  below = spread_below;
}

cells_fit : All (IsCell 10) spread_cells
cells_fit =
    let plain_row = All-cons (IsCell 10) (value 3 68) (replicate 43 empty_cell) (value_fits 3 68 (omega arith) (omega arith)) (none_there 43) in
    All-cons (IsCell 10) newest_version (value 3 68 ∷ replicate 43 empty_cell)
    (version_fits newest_version (omega arith) (omega arith) (omega arith) (omega arith) (λ none. absurd (omega arith)), omega arith, omega arith)
    plain_row

others_fit : All (IsCell 10) spread_others
others_fit =
    let oldest = All-cons (IsCell 10) (old_value 1 65) (replicate 43 empty_cell) (old_value_fits 1 65 (omega arith) (omega arith)) (none_there 43) in
    All-cons (IsCell 10) older_version (old_value 1 65 ∷ replicate 43 empty_cell)
    (version_fits older_version (omega arith) (omega arith) (omega arith) (omega arith) (λ none. absurd (omega arith)), omega arith, omega arith)
    oldest

abbrev spread_pages : List Page
spread_pages = header_page 4 ∷ inventory_page 6 ∷ tip_page spread_states ∷ wide_pointer_page ∷ data_page spread_cells ∷ second_data_page spread_others ∷ []

whole_page : (number : ℕ) (page : Page) → slice_get spread_pages number ≡ Some page → Fits number page
whole_page zero page at = rw (← same_Some _ page at) (whole_header 4 (omega arith) (omega arith), refl)
whole_page (suc zero) page at = rw (← same_Some _ page at) (record { page = omega arith; sequence = omega arith; count = refl; own = λ same. refl; header = λ same. refl }, refl)
whole_page (suc (suc zero)) page at =
    rw (← same_Some _ page at)
    (record { page = omega arith; sequence = omega arith; count = refl; zero = λ same. refl; state = no_limbo (Active ∷ Committed ∷ Committed ∷ Committed ∷ replicate 4028 Active) refl }, refl)
whole_page (suc (suc (suc zero))) page at =
    rw (← same_Some _ page at) (
      record {
        page_fits = omega arith;
        sequence_fits = omega arith;
        relation_fits = omega arith;
        count = refl;
        slots_fit = All-cons (λ number. number < number_limit) 4 (5 ∷ replicate 250 0) (omega arith)
            (All-cons (λ number. number < number_limit) 5 (replicate 250 0) (omega arith) (All-replicate (λ number. number < number_limit) 250 0 (omega arith)));
      },
      refl,
    )
whole_page (suc (suc (suc (suc zero)))) page at =
    rw (← same_Some _ page at) (record { page_fits = omega arith; sequence_fits = omega arith; relation_fits = omega arith; count = refl; each = cells_fit }, refl)
whole_page (suc (suc (suc (suc (suc zero))))) page at =
    rw (← same_Some _ page at) (record { page_fits = omega arith; sequence_fits = omega arith; relation_fits = omega arith; count = refl; each = others_fit }, refl)
whole_page (suc (suc (suc (suc (suc (suc number)))))) page at = cc

pub whole_spread_file : HasWholePages small_shape spread_file
whole_spread_file number content is = in_place number content (slice_get spread_pages number) (whole_page number) is
