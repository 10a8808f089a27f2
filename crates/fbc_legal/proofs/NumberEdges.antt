-- Who waits for whom over numbers and relations, by the lists of those that wait and of those that are waited for, after each change of them.
use Rattle.std.proofs.Common.{◌≡◌, ℕ, Bool, true, false, ◌==◌, ◌&&◌, ◌||◌, if◌then◌else◌, cond, List, [], ◌∷◌, ◌++◌, map, Option, Some, None, is_some, refl, arith}
use Rattle.std.specs.List.{All, AllPairs, filter, find, list_any}
use Rattle.std.specs.Option.{option_map_or}
use Rattle.std.proofs.lemmas.Bool.Decides.{nat_tests}
use Rattle.std.proofs.lemmas.List.Elements.{All-head, All-tail}
use Rattle.std.proofs.lemmas.List.Folds.{list_any-append}
use Rattle.fbc_levels.specs.declared.levels.Level.{Level}
use Rattle.fbc_levels.specs.declared.resources.Request.{Request}
use Rattle.fbc_levels.specs.declared.resources.Resource.{Resource}
use Rattle.fbc_levels.specs.LockState.{LockState, is_of, is_wait_of, stands_in_way, wait_of}
use Rattle.fbc_levels.specs.Waits.{is_for_number, is_wait_for, is_waited_for, waits_for_number}
use Rattle.fbc_lock_table.specs.Effects.{entered, new_request}
use Rattle.fbc_lock_table.proofs.Pairs.{AllPairs-head, AllPairs-tail, NotBoth}
use Rattle.fbc_world.proofs.Found.{find_passes}
use Rattle.fbc_legal.proofs.Exclusion.{both_of}
use Rattle.fbc_legal.proofs.ListTests.{any_filter, any_implied, any_mapped, found_any}

-- Whether one of these requests is the other's and in the way of the wait.
abbrev pub is_stopped : ℕ → List Request → Request → Bool
is_stopped other holders wait = list_any (λ r. (r.owner == other) && is_waited_for wait r) holders

-- Whether it is for a number or a relation, and so stopped.
abbrev pub is_edge : ℕ → List Request → Request → Bool
is_edge other holders wait = is_for_number wait && is_stopped other holders wait

-- Whether the owner waits so by one of these.
abbrev pub has_edge : List Request → List Request → ℕ → ℕ → Bool
has_edge waiters holders owner other = list_any (λ wait. is_wait_of owner wait && is_edge other holders wait) waiters

pub to_edge : (s : LockState) (owner other : ℕ) → waits_for_number s owner other ≡ true → has_edge s.requests s.requests owner other ≡ true
to_edge s owner other waits = go (wait_of s owner) refl waits where
  go : (found : Option Request) → wait_of s owner ≡ found → option_map_or (λ wait. is_for_number wait && is_wait_for s other wait) found false ≡ true → has_edge s.requests s.requests owner other ≡ true
  go None is waits' = absurd cc
  go (Some wait) is waits' =
      found_any (is_wait_of owner) (λ x. is_wait_of owner x && is_edge other s.requests x) wait (grind (arith, find_passes (is_wait_of owner) s.requests wait is, waits')) s.requests is

-- Where at most one passes, it is the one that is found.
module _ {X : Type 0} (p q : X → Bool) where
  none_both : (xs : List X) → All (λ x. p x ≡ true → ⊥) xs → list_any (λ x. p x && q x) xs ≡ true → ⊥
  none_both [] none any = cc
  none_both (x ∷ xs) none any = go (p x) refl any (none_both xs (All-tail (λ y. p y ≡ true → ⊥) x xs none)) where
    go : (b : Bool) → p x ≡ b → (b && q x) || list_any (λ y. p y && q y) xs ≡ true → (list_any (λ y. p y && q y) xs ≡ true → ⊥) → ⊥
    go true is any' rest = All-head (λ y. p y ≡ true → ⊥) x xs none is
    go false is any' rest = rest any'

  only_found : (xs : List X) → AllPairs (NotBoth p) xs → list_any (λ x. p x && q x) xs ≡ true → option_map_or q (find p xs) false ≡ true
  only_found [] once any = absurd cc
  only_found (x ∷ xs) once any = go (p x) refl any (only_found xs (AllPairs-tail (NotBoth p) x xs once)) where
    others : p x ≡ true → All (λ y. p y ≡ true → ⊥) xs
    others is k d within = AllPairs-head (NotBoth p) x xs once k d within is

    first : p x ≡ true → (c : Bool) → q x ≡ c → (c || list_any (λ y. p y && q y) xs) ≡ true → q x ≡ true
    first is true passes any' = passes
    first is false passes any' = absurd (none_both xs (others is) any')

    go : (b : Bool) → p x ≡ b → (b && q x) || list_any (λ y. p y && q y) xs ≡ true → (list_any (λ y. p y && q y) xs ≡ true → option_map_or q (find p xs) false ≡ true)
        → option_map_or q (cond b (Some x) (find p xs)) false ≡ true
    go true is any' rest = first is (q x) refl any'
    go false is any' rest = rest any'

pub from_edge : (s : LockState) (owner other : ℕ) → AllPairs (NotBoth (is_wait_of owner)) s.requests → has_edge s.requests s.requests owner other ≡ true → waits_for_number s owner other ≡ true
from_edge s owner other once is = only_found (is_wait_of owner) (is_edge other s.requests) s.requests once is

-- A wait of the same owner, for the same resource and level, is stopped by the same.
parts : (owner other : ℕ) (holders : List Request) (x y : Request) → x.owner ≡ y.owner → x.resource ≡ y.resource → x.waiting ≡ y.waiting
    → is_wait_of owner x && is_edge other holders x ≡ true → is_wait_of owner y && is_edge other holders y ≡ true
parts owner other holders x y owns of waits is = rw (← owns, ← of, ← waits) is

module _ (owner other : ℕ) where
  abbrev pub Kept : List Request → List Request → List Request → List Request → Type 0
  Kept ws hs ws' hs' = has_edge ws' hs' owner other ≡ true → has_edge ws hs owner other ≡ true

  -- Changes of those that wait.
  pub waiters_map : (f : Request → Request) → ((x : Request) → (f x).owner ≡ x.owner) → ((x : Request) → (f x).resource ≡ x.resource) → ((x : Request) → is_wait_of owner (f x) ≡ true → (f x).waiting ≡ x.waiting)
      → (ws hs : List Request) → Kept ws hs (map f ws) hs
  waiters_map f owns of waits ws hs =
      any_mapped (λ x. is_wait_of owner x && is_edge other hs x) (λ x. is_wait_of owner x && is_edge other hs x) f
      (λ x is. parts owner other hs (f x) x (owns x) (of x) (waits x (both_of (is_wait_of owner (f x)) (is_edge other hs (f x)) is).0) is) ws

  pub waiters_filter : (q : Request → Bool) (ws hs : List Request) → Kept ws hs (filter q ws) hs
  waiters_filter q ws hs = any_filter (λ x. is_wait_of owner x && is_edge other hs x) q ws

  pub waiters_entered : (o : ℕ) (r : Resource) (word : ℕ) (ws hs : List Request) → Kept ws hs (entered ws o r word) hs
  waiters_entered o r word ws hs = go (is_some (find (is_of o r) ws)) where
    idle : (a b c : Bool) → a || (((b && false) && c) || false) ≡ true → a ≡ true
    idle a b c is = grind (arith, is)

    go : (b : Bool) → Kept ws hs (if b then ws else ws ++ new_request o r word ∷ []) hs
    go true is = is
    go false is = idle _ (o == owner) (is_edge other hs (new_request o r word)) (rw (list_any-append (λ x. is_wait_of owner x && is_edge other hs x) ws (new_request o r word ∷ [])) at is)

  -- Changes of those that are waited for.
  pub holders_left : (hs hs' : List Request) → ((wait : Request) → is_stopped other hs' wait ≡ true → is_stopped other hs wait ≡ true) → (ws : List Request) → Kept ws hs ws hs'
  holders_left hs hs' from ws =
      any_implied (λ x. is_wait_of owner x && is_edge other hs' x) (λ x. is_wait_of owner x && is_edge other hs x)
      (λ x is. kept (is_wait_of owner x) (is_for_number x) (is_stopped other hs' x) (is_stopped other hs x) (from x) is) ws where
        kept : (a b c d : Bool) → (c ≡ true → d ≡ true) → a && (b && c) ≡ true → a && (b && d) ≡ true
        kept a b c d more is = grind (arith, more, is)

new_stops : (o : ℕ) (r : Resource) (word : ℕ) (wait : Request) → is_waited_for wait (new_request o r word) ≡ false
new_stops o r word wait = go wait.waiting where
  go : (waiting : Option Level) → option_map_or (λ level. stands_in_way wait.owner wait.resource level (new_request o r word)) waiting false && true ≡ false
  go None = refl
  go (Some level) = grind (arith, nat_tests)

pub stopped_entered : (other o : ℕ) (r : Resource) (word : ℕ) (hs : List Request) (wait : Request) → is_stopped other (entered hs o r word) wait ≡ true → is_stopped other hs wait ≡ true
stopped_entered other o r word hs wait = go (is_some (find (is_of o r) hs)) where
  idle : (a b c : Bool) → c ≡ false → a || ((b && c) || false) ≡ true → a ≡ true
  idle a b c e is = grind (arith, e, is)

  go : (b : Bool) → is_stopped other (if b then hs else hs ++ new_request o r word ∷ []) wait ≡ true → is_stopped other hs wait ≡ true
  go true is = is
  go false is =
      idle _ (o == other) (is_waited_for wait (new_request o r word)) (new_stops o r word wait) (rw (list_any-append (λ x. (x.owner == other) && is_waited_for wait x) hs (new_request o r word ∷ [])) at is)

-- Some requests are taken out.
pub filtered : (q : Request → Bool) (rs : List Request) (owner other : ℕ) → has_edge (filter q rs) (filter q rs) owner other ≡ true → has_edge rs rs owner other ≡ true
filtered q rs owner other is =
    waiters_filter owner other q rs rs (holders_left owner other rs (filter q rs) (λ wait. any_filter (λ r. (r.owner == other) && is_waited_for wait r) q rs) (filter q rs) is)
