-- The small files of one transaction: the fresh one, and the one after each write of a commit, without an insert or with some.
use Rattle.std.proofs.Common.{◌≡◌, ◌≤◌, ◌<◌, ◌+◌, inl, inr, ℕ, zero, suc, List, [], ◌∷◌, length, slice_get, slice_set, true, false, Some, None, refl, ap, sym, ◌∙◌, arith, lit<}
use Rattle.std.specs.Prelude.{replicate}
use Rattle.std.specs.Option.{option_and_then}
use Rattle.fbc_kinds.specs.declared.pages.Page.TheVariants as kind
use Rattle.fbc_kinds.specs.declared.pages.State.{State}
use Rattle.fbc_kinds.specs.declared.pages.State.TheVariants.{Active, Committed}
use Rattle.fbc_kinds.specs.View.{unless_zero, is_active_state}
use Rattle.fbc_files.specs.NewPages.{taken_first, active_states, empty_slots}
use Rattle.fbc_console.specs.FreshFile.{filled_data}
use Rattle.fbc_console.proofs.SmallFile.{Small, named_at, HasNoData, IsSmall, missing, holding}
use Rattle.fbc_files.proofs.NewFits.{first_taken, length-active_states, length-empty_slots, length-taken_first}
use Rattle.fbc_console.proofs.Fits.{slice_get-set_true}

-- The fresh file.
abbrev pub fresh_small : Small
fresh_small = record { next = 1; taken = taken_first 4 8060; states = active_states 4032; slots = empty_slots 252; last = [] }

-- The file after the write of the header.
abbrev pub begun_small : Small
begun_small = record fresh_small { next = 2 }

-- The file after a transaction without inserts.
abbrev pub quiet_small : Small
quiet_small = record begun_small { states = slice_set (active_states 4032) 1 Committed }

-- The file after the write of the page inventory too.
abbrev pub taken_small : Small
taken_small = record begun_small { taken = slice_set (taken_first 4 8060) 4 true }

-- The file after the write of the data page too.
abbrev pub held_small : List (List ℕ) → Small
held_small values = record taken_small { last = kind.Data (filled_data values) ∷ [] }

-- The file after the write of the pointer page too.
abbrev pub named_small : List (List ℕ) → Small
named_small values = record (held_small values) { slots = slice_set (empty_slots 252) 0 4 }

-- The file after a transaction with inserts.
abbrev pub filled_small : List (List ℕ) → Small
filled_small values = record (named_small values) { states = slice_set (active_states 4032) 1 Committed }

-- What a list of so many equal elements has at a place.
got : {X : Type 0} (count : ℕ) (x y : X) (i : ℕ) → slice_get (replicate count x) i ≡ Some y → x ≡ y
got zero x y i is = let no : ⊥ = cc in absurd no
got (suc count) x y zero is = cc
got (suc count) x y (suc i) is = got count x y i is

-- What it has within it.
within : {X : Type 0} (count : ℕ) (x : X) (i : ℕ) → i < count → slice_get (replicate count x) i ≡ Some x
within zero x i low = let no : ⊥ = omega (arith, low) in absurd no
within (suc count) x zero low = refl
within (suc count) x (suc i) low = within count x i (omega (arith, low))

-- An element that was put in a place stands there, and nowhere else.
put_there : {X : Type 0} (xs : List X) (i : ℕ) (x : X) → i < length xs → slice_get (slice_set xs i x) i ≡ Some x
put_there [] i x low = let no : ⊥ = omega (arith, low) in absurd no
put_there (y ∷ ys) zero x low = refl
put_there (y ∷ ys) (suc i) x low = put_there ys i x (omega (arith, low))

put_elsewhere : {X : Type 0} (xs : List X) (i j : ℕ) (x : X) → (i ≡ j → ⊥) → slice_get (slice_set xs i x) j ≡ slice_get xs j
put_elsewhere [] i j x other = refl
put_elsewhere (y ∷ ys) zero zero x other = absurd (other refl)
put_elsewhere (y ∷ ys) zero (suc j) x other = refl
put_elsewhere (y ∷ ys) (suc i) zero x other = refl
put_elsewhere (y ∷ ys) (suc i) (suc j) x other = put_elsewhere ys i j x (λ same. other (ap suc same))

active_only : (count place : ℕ) (state : State) → slice_get (active_states count) place ≡ Some state → is_active_state state ≡ false → ⊥
unfolding active_states
active_only count place state is over =
    let same : Active ≡ state = got count Active state place is in
    let no : true ≡ false = ap is_active_state same ∙ over in
    cc

pub active_at : (count place : ℕ) → place < count → slice_get (active_states count) place ≡ Some Active
unfolding active_states
active_at count place low = within count Active place low

committed_only : (count place : ℕ) (state : State) → slice_get (slice_set (active_states count) 1 Committed) place ≡ Some state → is_active_state state ≡ false → place < 2
committed_only count zero state is over = lit< tt
committed_only count (suc zero) state is over = lit< tt
committed_only count (suc (suc place)) state is over =
    absurd (active_only count (suc (suc place)) state (sym (put_elsewhere (active_states count) 1 (suc (suc place)) Committed (λ e. omega (arith, e))) ∙ is) over)

-- The state of transaction 1, once it is committed, and of the next one.
pub committed_at : (count : ℕ) → 2 < count → slice_get (slice_set (active_states count) 1 Committed) 1 ≡ Some Committed
committed_at count more = put_there (active_states count) 1 Committed (omega (arith, length-active_states count, more))

pub next_at : (count : ℕ) → 2 < count → slice_get (slice_set (active_states count) 1 Committed) 2 ≡ Some Active
next_at count more = put_elsewhere (active_states count) 1 2 Committed (λ e. omega (arith, e)) ∙ active_at count 2 more

unnamed : (count slot : ℕ) → named_at (empty_slots count) slot ≡ None
unfolding empty_slots
unnamed count slot = go count slot
  where
    go : (count slot : ℕ) → named_at (replicate count 0) slot ≡ None
    go zero slot = refl
    go (suc count) zero = refl
    go (suc count) (suc slot) = go count slot

named_first : (count : ℕ) → 0 < count → named_at (slice_set (empty_slots count) 0 4) 0 ≡ Some 4
named_first count some = ap (option_and_then unless_zero) (put_there (empty_slots count) 0 4 (omega (arith, length-empty_slots count, some)))

unnamed_later : (count slot : ℕ) → named_at (slice_set (empty_slots count) 0 4) (suc slot) ≡ None
unnamed_later count slot = ap (option_and_then unless_zero) (put_elsewhere (empty_slots count) 0 (suc slot) 4 (λ e. omega (arith, e))) ∙ unnamed count (suc slot)

marked : (taken free : ℕ) → taken < taken + free → slice_get (slice_set (taken_first taken free) taken true) taken ≡ Some true
marked taken free some = put_there (taken_first taken free) taken true (omega (arith, length-taken_first taken free, some))

marks_fresh : (page : ℕ) → page < 4 → slice_get (taken_first 4 8060) page ≡ Some true
marks_fresh page low = first_taken 4 8060 page low

marks_taken : (page : ℕ) → page < 4 → slice_get (slice_set (taken_first 4 8060) 4 true) page ≡ Some true
marks_taken page low = slice_get-set_true (taken_first 4 8060) 4 page (marks_fresh page low)

none_over : (next place : ℕ) (state : State) → slice_get (active_states 4032) place ≡ Some state → is_active_state state ≡ false → place < next
none_over next place state is over = absurd (active_only 4032 place state is over)

one_over : (place : ℕ) (state : State) → slice_get (slice_set (active_states 4032) 1 Committed) place ≡ Some state → is_active_state state ≡ false → place < 2
one_over place state is over = committed_only 4032 place state is over

-- A small file whose slots are the fresh ones.
no_data : (s : Small) → s.slots ≡ empty_slots 252 → HasNoData s [] 4
no_data s slots = record { unnamed = λ slot. ap (λ held. named_at held slot) slots ∙ unnamed 252 slot; no_values = refl; four = refl }

pub IsSmall-fresh : IsSmall fresh_small [] 4
IsSmall-fresh = record { marks = marks_fresh; begun_only = none_over 1; last_page = missing refl; data_page = inl (no_data fresh_small refl) }

pub IsSmall-begun : IsSmall begun_small [] 4
IsSmall-begun = record { marks = marks_fresh; begun_only = none_over 2; last_page = missing refl; data_page = inl (no_data begun_small refl) }

pub IsSmall-quiet : IsSmall quiet_small [] 4
IsSmall-quiet = record { marks = marks_fresh; begun_only = one_over; last_page = missing refl; data_page = inl (no_data quiet_small refl) }

pub IsSmall-taken : IsSmall taken_small [] 4
IsSmall-taken = record { marks = marks_taken; begun_only = none_over 2; last_page = missing refl; data_page = inl (no_data taken_small refl) }

module _ (values : List (List ℕ)) where
  pub IsSmall-held : IsSmall (held_small values) [] 4
  IsSmall-held = record { marks = marks_taken; begun_only = none_over 2; last_page = holding values refl (lit< tt); data_page = inl (no_data (held_small values) refl) }

  pub IsSmall-named : length values ≤ 45 → IsSmall (named_small values) values 5
  IsSmall-named room = record {
    marks = marks_taken;
    begun_only = none_over 2;
    last_page = holding values refl (lit< tt);
    data_page = inr (record { held = refl; named = named_first 252 (lit< tt); unnamed = λ slot. unnamed_later 252 slot; marked = marked 4 8060 (lit< tt); room = room; five = refl });
  }

  pub IsSmall-filled : length values ≤ 45 → IsSmall (filled_small values) values 5
  IsSmall-filled room = record {
    marks = marks_taken;
    begun_only = one_over;
    last_page = holding values refl (lit< tt);
    data_page = inr (record { held = refl; named = named_first 252 (lit< tt); unnamed = λ slot. unnamed_later 252 slot; marked = marked 4 8060 (lit< tt); room = room; five = refl });
  }
