-- The small files are sound.
use Rattle.std.proofs.Common.{◌≡◌, ◌==◌, ◌<◌, ◌+◌, ◌-◌, ◌*◌, ◌++◌, ◌∙◌, ℕ, zero, suc, Bool, true, false, nat_lt, List, [], ◌∷◌, Some, refl, sym, arith, length, slice_get}
use Rattle.std.specs.Prelude.{replicate}
use Rattle.std.specs.List.{list_all}
use Rattle.std.proofs.lemmas.Bool.{ltb-true}
use Rattle.std.proofs.lemmas.Option.{same_Some}
use Rattle.fbc_kinds.specs.declared.pages.Cell.{Cell}
use Rattle.fbc_kinds.specs.declared.pages.State.{State}
use Rattle.fbc_kinds.specs.declared.pages.State.TheVariants.{Active, Committed}
use Rattle.fbc_kinds.specs.Chain.{state_of}
use Rattle.fbc_kinds.specs.DataSpelling.{empty_cell}
use Rattle.fbc_kinds.specs.Reach.{DataRole, LinksTo, ReachesCell, Reaches, Role, TipRole, shows_role}
use Rattle.fbc_kinds.specs.Sound.{IsBackValue, IsSound}
use Rattle.fbc_kinds.specs.View.{View, cell_at, is_active_state, is_back, is_committed_state, is_empty, is_taken, state_in}
use Rattle.fbc_kinds.proofs.Roles.{reached_once}
use Rattle.fbc_examples.specs.Files.{data_file, deletion, empty_file, first_cells, header_page, new_file, old_value, over, pointer_page, row_file, tip_page, value, worn_cells, worn_file}
use Rattle.fbc_examples.proofs.SmallViews.{IsPlace, data_is, passes_at, place_of, reached, stands_in, stays, same_at, tip_is}

-- Behind these states all are active.
pub active_behind : (count place : ℕ) (state : State) → slice_get (replicate count Active) place ≡ Some state → is_active_state state ≡ false → ⊥
active_behind count place state at over = let same = same_at count Active place state at in let active : is_active_state Active ≡ false = rw same at over in cc

-- A file without data pages is sound whose pages are what they are named for, and taken.
module _ (view : View) (at_header : view 0 ≡ Some (header_page 1)) (at_tip : view 2 ≡ Some (tip_page [])) (at_pointer : view 3 ≡ Some (pointer_page 0))
    (fits : (role : Role) (page : ℕ) → IsPlace 0 role page → (shows_role role page (view page) ≡ true) × (is_taken view page ≡ true)) where
  bare_reached : (role : Role) (page : ℕ) → Reaches view role page → (shows_role role page (view page) ≡ true) × (is_taken view page ≡ true)
  bare_reached role page is = fits role page (place_of view 1 0 at_header at_pointer role page is)

  no_data : (number sequence page : ℕ) → Reaches view (DataRole number sequence) page → ⊥
  no_data number sequence page is = let some = (data_is view 1 0 at_header at_pointer number sequence page is).2 in absurd cc

  no_cell : (number page cell : ℕ) → ReachesCell view number page cell → ⊥
  no_cell number page cell (ReachesCell.top sequence _ _ version is stands top) = no_data number sequence page is
  no_cell number page cell (ReachesCell.along from from_cell _ _ version before stands names) = no_cell number from from_cell before

  none_over : (sequence page place : ℕ) (state : State) → Reaches view (TipRole sequence) page → state_in (view page) place ≡ Some state → is_active_state state ≡ false → ⊥
  none_over sequence page place state is at over =
      let here : state_in (view 2) place ≡ Some state = rw (tip_is view 1 0 at_header at_pointer sequence page is).1 at at in
      active_behind 4032 place state (rw at_tip at here) over

  pub sound_bare : IsSound view
  sound_bare = record {
    fitting = λ role page is. (bare_reached role page is).0;
    taken = λ role page is. (bare_reached role page is).1;
    once = reached_once view (λ role page is. (bare_reached role page is).0);
    back = λ number page cell back_page back_cell version links. absurd (no_cell number page cell links.reached);
    back_once = λ number page cell other_number other_page other_cell back_page back_cell version other links others. absurd (no_cell number page cell links.reached);
    numbers = λ number sequence page cell version is stands some. absurd (no_data number sequence page is);
    states = λ sequence page place state is at over. absurd (none_over sequence page place state is at over);
    below = λ number page cell back_page back_cell version back links stands. absurd (no_cell number page cell links.reached);
  }

new_fits : (role : Role) (page : ℕ) → IsPlace 0 role page → (shows_role role page (new_file page) ≡ true) × (is_taken new_file page ≡ true)
new_fits role page IsPlace.header_place = (refl, refl)
new_fits role page IsPlace.inventory_place = (refl, refl)
new_fits role page IsPlace.tip_place = (refl, refl)
new_fits role page IsPlace.pointer_place = (refl, refl)
new_fits role page (IsPlace.data_place some) = cc

pub sound_new : IsSound new_file
sound_new = sound_bare new_file refl refl refl new_fits

-- Whether the number of a version is below the next.
abbrev pub is_below : ℕ → Cell → Bool
is_below next version = nat_lt version.number next

-- The back version of a version, a committed value of a smaller number, stands in the next cell.
record IsOverNext (next : ℕ) (states : List State) (cells : List Cell) (cell : ℕ) (version : Cell) : Type 0 where
  page_is : version.back_page ≡ 4
  cell_is : version.back_cell ≡ suc cell
  back : Cell
  stands : slice_get cells (suc cell) ≡ Some back
  is_value : is_back back.flag ≡ true
  smaller : back.number < version.number
  committed : is_committed_state (state_of (data_file next states cells) back.number) ≡ true

-- What makes a file with one data page sound.
record IsGood (next : ℕ) (states : List State) (cells : List Cell) : Type 0 where
  near : list_all stays cells ≡ true
  low : list_all (is_below next) cells ≡ true
  before : (place : ℕ) (state : State) → slice_get (states ++ replicate (4032 - length states) Active) place ≡ Some state → is_active_state state ≡ false → place < next
  over_next : (cell : ℕ) (version : Cell) → slice_get cells cell ≡ Some version → (version.back_page == 0) ≡ false → IsOverNext next states cells cell version

module _ (next : ℕ) (states : List State) (cells : List Cell) (good : IsGood next states cells) where
  abbrev view : View
  view = data_file next states cells

  data_fits : (role : Role) (page : ℕ) → IsPlace 4 role page → (shows_role role page (view page) ≡ true) × (is_taken view page ≡ true)
  data_fits role page IsPlace.header_place = (refl, refl)
  data_fits role page IsPlace.inventory_place = (refl, refl)
  data_fits role page IsPlace.tip_place = (refl, refl)
  data_fits role page IsPlace.pointer_place = (refl, refl)
  data_fits role page (IsPlace.data_place some) = (refl, refl)

  data_reached : (role : Role) (page : ℕ) → Reaches view role page → (shows_role role page (view page) ≡ true) × (is_taken view page ≡ true)
  data_reached role page is = data_fits role page (place_of view next 4 refl refl role page is)

  -- A version that names a back version stands in the one data page, over the next cell.
  record IsOver (number page cell back_page back_cell : ℕ) (version : Cell) : Type 0 where
    only : number ≡ 0
    here : page ≡ 4
    over : IsOverNext next states cells cell version
    back_page_is : back_page ≡ 4
    back_cell_is : back_cell ≡ suc cell

  link_is : (number page cell back_page back_cell : ℕ) (version : Cell) → LinksTo view number page cell version back_page back_cell → IsOver number page cell back_page back_cell version
  link_is number page cell back_page back_cell version links =
      let held = reached view next cells refl refl refl good.near number page cell links.reached in
      let over = good.over_next cell version (stands_in view next cells refl refl refl good.near page cell version held.1 links.stands) links.names.some in
      record {
        only = held.0;
        here = held.1;
        over = over;
        back_page_is = sym links.names.page_is ∙ over.page_is;
        back_cell_is = sym links.names.cell_is ∙ over.cell_is;
      }

  data_back : (number page cell back_page back_cell : ℕ) (version : Cell) → LinksTo view number page cell version back_page back_cell → IsBackValue view number back_page back_cell version.number
  data_back number page cell back_page back_cell version links =
      let link = link_is number page cell back_page back_cell version links in
      rw (link.only, link.back_page_is, link.back_cell_is)
      (record { sequence = 0; back = link.over.back; named = refl; stands = link.over.stands; is_value = link.over.is_value; smaller = link.over.smaller })

  data_back_once : (number page cell other_number other_page other_cell back_page back_cell : ℕ) (version other : Cell)
      → LinksTo view number page cell version back_page back_cell → LinksTo view other_number other_page other_cell other back_page back_cell
      → (page ≡ other_page) × (cell ≡ other_cell)
  data_back_once number page cell other_number other_page other_cell back_page back_cell version other links others =
      let link = link_is number page cell back_page back_cell version links in
      let also = link_is other_number other_page other_cell back_page back_cell other others in
      (link.here ∙ sym also.here, omega (arith, link.back_cell_is, also.back_cell_is))

  data_numbers : (number sequence page cell : ℕ) (version : Cell) → Reaches view (DataRole number sequence) page → cell_at view page cell ≡ Some version
      → is_empty version.flag ≡ false → version.number < next
  data_numbers number sequence page cell version is stands some =
      ltb-true version.number next
      (passes_at (is_below next) cells cell version good.low
      (stands_in view next cells refl refl refl good.near page cell version (data_is view next 4 refl refl number sequence page is).3 stands))

  data_states : (sequence page place : ℕ) (state : State) → Reaches view (TipRole sequence) page → state_in (view page) place ≡ Some state
      → is_active_state state ≡ false → sequence * 4032 + place < next
  data_states sequence page place state is at over =
      let found = tip_is view next 4 refl refl sequence page is in
      let below = good.before place state (rw found.1 at at) over in
      rw found.0 (omega arith)

  data_below : (number page cell back_page back_cell : ℕ) (version back : Cell) → LinksTo view number page cell version back_page back_cell
      → cell_at view back_page back_cell ≡ Some back → is_committed_state (state_of view back.number) ≡ true
  data_below number page cell back_page back_cell version back links stands =
      let link = link_is number page cell back_page back_cell version links in
      let here : slice_get cells (suc cell) ≡ Some back = rw (link.back_page_is, link.back_cell_is) at stands in
      let same : link.over.back ≡ back = (let both : Some link.over.back ≡ Some back = sym link.over.stands ∙ here in cc) in
      rw (← same) link.over.committed

  sound_data : IsSound view
  sound_data = record {
    fitting = λ role page is. (data_reached role page is).0;
    taken = λ role page is. (data_reached role page is).1;
    once = reached_once view (λ role page is. (data_reached role page is).0);
    back = data_back;
    back_once = data_back_once;
    numbers = data_numbers;
    states = data_states;
    below = data_below;
  }

-- Empty cells name no back version.
pub none_behind : (count place : ℕ) (version : Cell) → slice_get (replicate count empty_cell) place ≡ Some version → (version.back_page == 0) ≡ false → ⊥
none_behind count place version at some =
    let same = same_at count empty_cell place version at in let none : (empty_cell.back_page == 0) ≡ false = rw same at some in cc

pub sound_empty : IsSound empty_file
sound_empty = sound_data 1 [] (first_cells []) (record {
  near = refl;
  low = refl;
  before = λ place state at over. absurd (active_behind 4032 place state at over);
  over_next = λ cell version at some. absurd (none_behind 45 cell version at some);
})

row_states : (place : ℕ) (state : State) → slice_get (Active ∷ Committed ∷ replicate 4030 Active) place ≡ Some state → is_active_state state ≡ false → place < 2
row_states zero state at over = omega arith
row_states (suc zero) state at over = omega arith
row_states (suc (suc place)) state at over = absurd (active_behind 4030 place state at over)

row_links : (cell : ℕ) (version : Cell) → slice_get (first_cells (value 1 65 ∷ [])) cell ≡ Some version → (version.back_page == 0) ≡ false → ⊥
row_links zero version at some = let same : value 1 65 ≡ version = cc in let none : ((value 1 65).back_page == 0) ≡ false = rw (← same) at some in cc
row_links (suc cell) version at some = none_behind 44 cell version at some

pub sound_row : IsSound row_file
sound_row = sound_data 2 (Active ∷ Committed ∷ []) (first_cells (value 1 65 ∷ [])) (record {
  near = refl;
  low = refl;
  before = row_states;
  over_next = λ cell version at some. absurd (row_links cell version at some);
})

worn_states : (place : ℕ) (state : State) → slice_get (Active ∷ Committed ∷ Committed ∷ Committed ∷ replicate 4028 Active) place ≡ Some state → is_active_state state ≡ false → place < 5
worn_states zero state at over = omega arith
worn_states (suc zero) state at over = omega arith
worn_states (suc (suc zero)) state at over = omega arith
worn_states (suc (suc (suc zero))) state at over = omega arith
worn_states (suc (suc (suc (suc place)))) state at over = absurd (active_behind 4028 place state at over)

pub plain : (one version : Cell) → one ≡ version → one.back_page ≡ 0 → (version.back_page == 0) ≡ false → ⊥
plain one version same none some = let left : (one.back_page == 0) ≡ false = rw (← same) at some in let zero_page : (0 == 0) ≡ false = rw none at left in cc

worn_links : (cell : ℕ) (version : Cell) → slice_get worn_cells cell ≡ Some version → (version.back_page == 0) ≡ false
    → IsOverNext 5 (Active ∷ Committed ∷ Committed ∷ Committed ∷ []) worn_cells cell version
worn_links zero version at some =
    let same : over 1 (value 3 67) ≡ version = cc in
    rw (← same) (record { page_is = refl; cell_is = refl; back = over 2 (old_value 2 66); stands = refl; is_value = refl; smaller = omega arith; committed = refl })
worn_links (suc zero) version at some =
    let same : over 2 (old_value 2 66) ≡ version = cc in
    rw (← same) (record { page_is = refl; cell_is = refl; back = old_value 1 65; stands = refl; is_value = refl; smaller = omega arith; committed = refl })
worn_links (suc (suc zero)) version at some = absurd (plain (old_value 1 65) version (same_Some _ _ at) refl some)
worn_links (suc (suc (suc zero))) version at some = absurd (plain (deletion 3) version (same_Some _ _ at) refl some)
worn_links (suc (suc (suc (suc zero)))) version at some = absurd (plain (value 4 68) version (same_Some _ _ at) refl some)
worn_links (suc (suc (suc (suc (suc cell))))) version at some = absurd (none_behind 40 cell version at some)

pub sound_worn : IsSound worn_file
sound_worn = sound_data 5 (Active ∷ Committed ∷ Committed ∷ Committed ∷ []) worn_cells (record { near = refl; low = refl; before = worn_states; over_next = worn_links })
