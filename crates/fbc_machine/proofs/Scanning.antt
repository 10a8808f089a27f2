-- A scan goes upward through the row numbers and misses none.
use Rattle.std.proofs.Common.{◌≡◌, ◌≤◌, ◌<◌, ◌+◌, ◌++◌, inl, inr, ℕ, Bool, true, false, List, [], ◌∷◌, length, refl, ap, arith, map}
use Rattle.std.specs.Prelude.{Option, Some, None, filter_map, fold, nat_lt, slice_index, Contains}
use Rattle.std.specs.List.Sorted.{IsStrictlyIncreasing}
use Rattle.std.proofs.lemmas.Bool.Decides.{nat_tests}
use Rattle.std.proofs.lemmas.List.{map-append}
use Rattle.std.proofs.lemmas.Grind.{common_steps}
use Rattle.std.proofs.lemmas.List.Elements.{Contains-push, Contains-append_left, Contains-push_cases}
use Rattle.fbc_kinds.specs.Chain.{see}
use Rattle.fbc_kinds.specs.Machine.{Machine, IsScan, standing_versions}
use Rattle.fbc_machine.specs.declared.machine.Version.{Version}
use Rattle.fbc_machine.specs.declared.machine.Machine.{Machine as Shown}
use Rattle.fbc_machine.specs.Shown.{shown, is_at, made_at}
use Rattle.fbc_machine.specs.Scanned.{nearer, IsNextRow, added}

-- A row number, if there is one, is at most so many.
abbrev pub IsAtMost : Option ℕ → ℕ → Type 0
IsAtMost None row = ⊥
IsAtMost (Some least) row = least ≤ row

abbrev pub IsFrom : ℕ → Option ℕ → Type 0
IsFrom from None = Unit {0}
IsFrom from (Some least) = from ≤ least

module _ (relation from : ℕ) where
  near : (next : Option ℕ) (v : Version) (row : ℕ) → IsAtMost next row → IsAtMost (nearer relation from next v) row
  near None v row h = absurd h
  near (Some least) v row h = grind (arith, nat_tests)

  stays : (next : Option ℕ) (v : Version) → IsFrom from next → IsFrom from (nearer relation from next v)
  stays None v h = grind (arith, nat_tests)
  stays (Some least) v h = grind (arith, nat_tests)

  pub fold_near : (versions : List Version) (next : Option ℕ) (row : ℕ) → IsAtMost next row → IsAtMost (fold (nearer relation from) next versions) row
  fold_near [] next row h = h
  fold_near (v ∷ vs) next row h = fold_near vs (nearer relation from next v) row (near next v row h)

  pub fold_from : (versions : List Version) (next : Option ℕ) → IsFrom from next → IsFrom from (fold (nearer relation from) next versions)
  fold_from [] next h = h
  fold_from (v ∷ vs) next h = fold_from vs (nearer relation from next v) (stays next v h)

  meets : (next : Option ℕ) (v : Version) (row : ℕ) → from ≤ row → is_at relation row v ≡ true → IsAtMost (nearer relation from next v) row
  meets None v row le is = grind (arith, nat_tests)
  meets (Some least) v row le is = grind (arith, nat_tests)

  without : (v : Version) (vs : List Version) (row : ℕ) (b : Bool) → is_at relation row v ≡ b → (b ≡ true → ⊥) → filter_map (made_at relation row) vs ≡ [] → filter_map (made_at relation row) (v ∷ vs) ≡ []
  without v vs row true is not_at rest = absurd (not_at refl)
  without v vs row false is not_at rest = rw is rest

  -- A row number that was passed over has no version.
  pub fold_misses : (versions : List Version) (next : Option ℕ) (row : ℕ) → from ≤ row → (IsAtMost (fold (nearer relation from) next versions) row → ⊥) → filter_map (made_at relation row) versions ≡ []
  fold_misses [] next row le far = refl
  fold_misses (v ∷ vs) next row le far =
      without v vs row (is_at relation row v) refl
      (λ is. far (fold_near vs (nearer relation from next v) row (meets next v row le is)))
      (fold_misses vs (nearer relation from next v) row le far)

-- What was passed over lies from the start on and below the next row number.
next_at : (machine : Machine) (relation from : ℕ) (next : Option ℕ) → ((row : ℕ) → from ≤ row → (IsAtMost next row → ⊥) → machine.rows relation row ≡ []) → IsFrom from next → IsNextRow machine relation from next
next_at machine relation from None misses is = λ row le. misses row le (λ near. near)
next_at machine relation from (Some next) misses is = (is, λ row le lt. misses row le (λ near. absurd (omega arith)))

-- The next row number after a walk over all versions.
pub next_found : (relation from : ℕ) (machine : Shown) → IsNextRow (shown machine) relation from (fold (nearer relation from) None machine.versions.items)
next_found relation from machine = next_at (shown machine) relation from (fold (nearer relation from) None machine.versions.items) (fold_misses relation from machine.versions.items None) (fold_from relation from machine.versions.items None tt)

-- A list that rises, and a number above it.
increasing-push : (xs : List ℕ) (y : ℕ) → IsStrictlyIncreasing xs → ((k : ℕ) → k < length xs → slice_index xs k < y) → IsStrictlyIncreasing (xs ++ y ∷ [])
increasing-push xs y rises below k lt = grind (arith, common_steps, rises k, below k)

below-push : (xs : List ℕ) (y : ℕ) → ((k : ℕ) → k < length xs → slice_index xs k < y) → (k : ℕ) → k < length (xs ++ y ∷ []) → slice_index (xs ++ y ∷ []) k < y + 1
below-push xs y below k lt = grind (arith, common_steps, below k)

-- The numbers of rows.
abbrev pub numbers_of : List (ℕ × List ℕ) → List ℕ
numbers_of rows = map (λ (r : ℕ × List ℕ). r.0) rows

-- The rows so far are those below a number that are seen.
pub record IsScanBelow (visible : ℕ → Option (List ℕ)) (from : ℕ) (rows : List (ℕ × List ℕ)) : Type 0 where
  pub rising : IsStrictlyIncreasing (numbers_of rows)
  pub below : (k : ℕ) → k < length (numbers_of rows) → slice_index (numbers_of rows) k < from
  pub seen : (row : ℕ) (value : List ℕ) → Contains rows (row, value) → visible row ≡ Some value
  pub all : (row : ℕ) (value : List ℕ) → row < from → visible row ≡ Some value → Contains rows (row, value)

pub begins : (visible : ℕ → Option (List ℕ)) → IsScanBelow visible 0 []
begins visible = record {
  rising = λ k lt. absurd (omega arith);
  below = λ k lt. absurd (omega arith);
  seen = λ row value (k, lt, e). absurd (omega arith);
  all = λ row value lt e. absurd (omega arith);
}

module _ (visible : ℕ → Option (List ℕ)) (from : ℕ) (rows : List (ℕ × List ℕ)) (is : IsScanBelow visible from rows) where
  lower : (row : ℕ) (value : List ℕ) → ((r : ℕ) → from ≤ r → visible r ≡ None) → visible row ≡ Some value → row < from
  lower row value none e = grind (arith, none row, e)

  -- From some number on nothing is seen.
  pub finishes : ((row : ℕ) → from ≤ row → visible row ≡ None) → IsScan visible rows
  finishes none = record {
    rising = is.rising;
    exact = λ row value. (is.seen row value, λ e. is.all row value (lower row value none e) e);
  }

  module _ (row : ℕ) (le : from ≤ row) (none : (r : ℕ) → from ≤ r → r < row → visible r ≡ None) where
    reaches : (r : ℕ) (value : List ℕ) → r < row → visible r ≡ Some value → r < from
    reaches r value lt e = grind (arith, none r, e)

    under : (r : ℕ) (value : List ℕ) → visible row ≡ None → r < row + 1 → visible r ≡ Some value → r < row
    under r value here lt e = grind (arith, here, e)

    -- At the next row nothing is seen.
    skips : visible row ≡ None → IsScanBelow visible (row + 1) rows
    skips here = record {
      rising = is.rising;
      below = λ k lt. grind (arith, is.below k lt);
      seen = is.seen;
      all = λ r value lt e. is.all r value (reaches r value (under r value here lt e) e) e;
    }

    numbers : (k : ℕ) → k < length (numbers_of rows) → slice_index (numbers_of rows) k < row
    numbers k lt = grind (arith, is.below k lt)

    -- At the next row a value is seen.
    takes_seen : (value : List ℕ) → visible row ≡ Some value → (r : ℕ) (v : List ℕ) → Contains (rows ++ (row, value) ∷ []) (r, v) → visible r ≡ Some v
    takes_seen value here r v c = elim (Contains-push_cases rows (row, value) (r, v) c) [
      | inl old ↦ is.seen r v old
      | inr same ↦ rw (← ap (λ (x : ℕ × List ℕ). x.0) same, ← ap (λ (x : ℕ × List ℕ). x.1) same) here
    ]

    takes_all : (value : List ℕ) → visible row ≡ Some value → (r : ℕ) (v : List ℕ) (b : Bool) → nat_lt r row ≡ b → r < row + 1 → visible r ≡ Some v → Contains (rows ++ (row, value) ∷ []) (r, v)
    takes_all value here r v true before lt e = Contains-append_left rows ((row, value) ∷ []) (r, v) (is.all r v (reaches r v (grind (arith, nat_tests)) e) e)
    takes_all value here r v false after lt e =
        let at : row ≡ r = grind (arith, nat_tests) in
        let same : value ≡ v = grind (arith, here, e, at) in
        rw (← at, ← same) (Contains-push rows (row, value))

    takes : (value : List ℕ) → visible row ≡ Some value → IsScanBelow visible (row + 1) (rows ++ (row, value) ∷ [])
    takes value here = record {
      rising = rw map-append (increasing-push (numbers_of rows) row is.rising numbers);
      below = rw map-append (below-push (numbers_of rows) row numbers);
      seen = takes_seen value here;
      all = λ r v. takes_all value here r v (nat_lt r row) refl;
    }

    -- The next row, whether something is seen there or not.
    pub goes : (found : Option (List ℕ)) → visible row ≡ found → IsScanBelow visible (row + 1) (added found row rows)
    goes None here = skips here
    goes (Some value) here = takes value here

-- A row without versions shows nothing.
pub unseen : (machine : Machine) (relation row : ℕ) (held : ℕ → Bool) → machine.rows relation row ≡ [] → see (standing_versions machine relation row) held ≡ None
unseen machine relation row held e = rw e refl
