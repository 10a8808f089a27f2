-- Who is among the living owners.
use Rattle.std.proofs.Common.{◌≡◌, ℕ, zero, suc, ◌+◌, ◌≤◌, Bool, true, false, ◌||◌, ◌&&◌, ◌==◌, nat_lt, if◌then◌else◌, List, [], ◌∷◌, take, drop, length, Option, Some, None, slice_get, add-one, refl, sym, ◌∙◌, ap, arith}
use Rattle.std.specs.List.{list_any, fold, insert, take_while}
use Rattle.std.specs.Option.{option_map_or}
use Rattle.std.proofs.lemmas.Bool.Decides.{nat_tests}
use Rattle.std.proofs.lemmas.Grind.{common_steps, fold-append}
use Rattle.std.proofs.lemmas.List.{take-append-drop}
use Rattle.std.proofs.lemmas.List.Folds.{list_any-append}
use Rattle.std.proofs.lemmas.List.Edits.{length-insert}
use Rattle.std.proofs.lemmas.Bool.{and_parts}
use Rattle.fbc_levels.specs.declared.resources.Request.{Request}
use Rattle.fbc_levels.specs.LockState.{LockState, wait_of}
use Rattle.fbc_levels.specs.Waits.{is_waited_for, is_wait_for, is_for_number, waits_for_number}
use Rattle.fbc_owner_queues.specs.Living.{has, with_owner, with_living, living_owners}

-- An insertion adds the owner and nobody else.
pub has-insert : (os : List ℕ) (n o x : ℕ) → has (insert os n o) x ≡ ((o == x) || has os x)
has-insert os n o x =
    let parts : has os x ≡ (has (take n os) x || has (drop n os) x) = ap (λ ys. has ys x) (sym (take-append-drop n os)) ∙ list_any-append (λ y. y == x) (take n os) (drop n os) in
    list_any-append (λ y. y == x) (take n os) (o ∷ drop n os) ∙ swap (has (take n os) x) (o == x) (has (drop n os) x) ∙ ap (λ b. (o == x) || b) (sym parts) where
      swap : (a b c : Bool) → (a || (b || c)) ≡ (b || (a || c))
      swap true true c = refl
      swap true false c = refl
      swap false b c = refl

length-insert_most : (os : List ℕ) (n o : ℕ) → length os ≤ length (insert os n o)
length-insert_most os n o = grind (arith, common_steps, take-append-drop n os)

-- Nobody is lost, and the owner is among them.
pub has-with_owner_kept : (os : List ℕ) (o x : ℕ) → has os x ≡ true → has (with_owner o os) x ≡ true
has-with_owner_kept os o x there = step (has os o) where
  step : (b : Bool) → has (if b then os else insert os (length (take_while (λ y. nat_lt y o) os)) o) x ≡ true
  step true = there
  step false = has-insert os (length (take_while (λ y. nat_lt y o) os)) o x ∙ grind (arith)

pub has-with_owner_self : (os : List ℕ) (o : ℕ) → has (with_owner o os) o ≡ true
has-with_owner_self os o = step (has os o) refl where
  step : (b : Bool) → has os o ≡ b → has (if b then os else insert os (length (take_while (λ y. nat_lt y o) os)) o) o ≡ true
  step true is = is
  step false is = has-insert os (length (take_while (λ y. nat_lt y o) os)) o o ∙ grind (arith, nat_tests)

pub length-with_owner : (os : List ℕ) (o : ℕ) → length os ≤ length (with_owner o os)
length-with_owner os o = step (has os o) where
  step : (b : Bool) → length os ≤ length (if b then os else insert os (length (take_while (λ y. nat_lt y o) os)) o)
  step true = omega arith
  step false = length-insert_most os (length (take_while (λ y. nat_lt y o) os)) o

-- The same for a request.
has-with_living : (os : List ℕ) (r : Request) (x : ℕ) → has os x ≡ true → has (with_living os r) x ≡ true
has-with_living os r x there = step r.alive where
  step : (b : Bool) → has (if b then with_owner r.owner os else os) x ≡ true
  step true = has-with_owner_kept os r.owner x there
  step false = there

length-with_living : (os : List ℕ) (r : Request) → length os ≤ length (with_living os r)
length-with_living os r = step r.alive where
  step : (b : Bool) → length os ≤ length (if b then with_owner r.owner os else os)
  step true = length-with_owner os r.owner
  step false = omega arith

has-fold : (rs : List Request) (os : List ℕ) (x : ℕ) → has os x ≡ true → has (fold with_living os rs) x ≡ true
has-fold [] os x there = there
has-fold (r ∷ rs) os x there = has-fold rs (with_living os r) x (has-with_living os r x there)

length-fold : (rs : List Request) (os : List ℕ) → length os ≤ length (fold with_living os rs)
length-fold [] os = omega arith
length-fold (r ∷ rs) os = omega (arith, length-with_living os r, length-fold rs (with_living os r))

-- So far there are at most as many as in the end.
pub fold_step : (rs : List Request) (os : List ℕ) (k : ℕ) (r : Request) → slice_get rs k ≡ Some r → with_living (fold with_living os (take k rs)) r ≡ fold with_living os (take (suc k) rs)
fold_step [] os k r at = absurd (cc)
fold_step (q ∷ rs) os zero r at =
    let same : q ≡ r = cc in
    rw same refl
fold_step (q ∷ rs) os (suc k) r at = fold_step rs (with_living os q) k r at

pub fold_more : (rs : List Request) (k : ℕ) (r : Request) → slice_get rs k ≡ Some r → with_living (fold with_living [] (take k rs)) r ≡ fold with_living [] (take (k + 1) rs)
fold_more rs k r at = rw add-one (fold_step rs [] k r at)

pub fold_fits : (rs : List Request) (k n : ℕ) (r : Request) → slice_get rs k ≡ Some r → length (fold with_living [] rs) ≤ n → length (with_living (fold with_living [] (take k rs)) r) ≤ n
fold_fits rs k n r at fits =
    let whole : fold with_living [] rs ≡ fold with_living (fold with_living [] (take (suc k) rs)) (drop (suc k) rs) = ap (fold with_living []) (sym (take-append-drop (suc k) rs)) ∙ fold-append with_living [] (take (suc k) rs) (drop (suc k) rs) in
    omega (arith, ap length (fold_step rs [] k r at), ap length whole, length-fold (drop (suc k) rs) (fold with_living [] (take (suc k) rs)))

-- An owner with a living request is among them.
any_living : (wait : Request) (rs : List Request) (os : List ℕ) (x : ℕ) → list_any (λ r. (r.owner == x) && is_waited_for wait r) rs ≡ true → has (fold with_living os rs) x ≡ true
any_living wait [] os x any = absurd (cc)
any_living wait (r ∷ rs) os x any = step (r.owner == x) refl (is_waited_for wait r) refl any (λ any'. any_living wait rs (with_living os r) x any') where
  same : r.owner == x ≡ true → r.owner ≡ x
  same is = grind (arith, nat_tests)

  here : r.owner ≡ x → r.alive ≡ true → has (with_living os r) x ≡ true
  here is lives = rw (lives, ← is) (has-with_owner_self os r.owner)

  step : (b : Bool) → r.owner == x ≡ b → (c : Bool) → is_waited_for wait r ≡ c → (b && c) || list_any (λ t. (t.owner == x) && is_waited_for wait t) rs ≡ true → (list_any (λ t. (t.owner == x) && is_waited_for wait t) rs ≡ true → has (fold with_living (with_living os r) rs) x ≡ true) → has (fold with_living (with_living os r) rs) x ≡ true
  step true is true for any' rest = has-fold rs (with_living os r) x (here (same is) (and_parts _ r.alive for).1)
  step true is false for any' rest = rest any'
  step false is c for any' rest = rest any'

-- Who is waited for is among the living owners.
pub waited_lives : (s : LockState) (owner other : ℕ) → waits_for_number s owner other ≡ true → has (living_owners s) other ≡ true
waited_lives s owner other waits = step (wait_of s owner) waits where
  step : (o : Option Request) → option_map_or (λ wait. is_for_number wait && is_wait_for s other wait) o false ≡ true → has (living_owners s) other ≡ true
  step None waits' = absurd (cc)
  step (Some wait) waits' = any_living wait s.requests [] other (and_parts (is_for_number wait) (is_wait_for s other wait) waits').1

-- There are no more living owners than requests.
most_living : (rs : List Request) (os : List ℕ) → length (fold with_living os rs) ≤ length os + length rs
most_living [] os = omega arith
most_living (r ∷ rs) os = omega (arith, most_living rs (with_living os r), one_more r.alive) where
  insert_one : (n : ℕ) → n ≤ length os → length (insert os n r.owner) ≤ length os + 1
  insert_one n within = omega (arith, length-insert os n r.owner within)

  places : (p : ℕ → Bool) → length (take_while p os) ≤ length os
  places p = grind (arith, common_steps)

  one_owner : (b : Bool) → length (if b then os else insert os (length (take_while (λ y. nat_lt y r.owner) os)) r.owner) ≤ length os + 1
  one_owner true = omega arith
  one_owner false = insert_one (length (take_while (λ y. nat_lt y r.owner) os)) (places (λ y. nat_lt y r.owner))

  one_more : (b : Bool) → length (if b then with_owner r.owner os else os) ≤ length os + 1
  one_more true = one_owner (has os r.owner)
  one_more false = omega arith

pub few_living : (s : LockState) → length (living_owners s) ≤ length s.requests
few_living s = omega (arith, most_living s.requests [])
