-- No more living owners wait than are alive.
use Rattle.std.proofs.Common.{◌≡◌, ◌∙◌, ℕ, ◌≤◌, Bool, true, false, not, ◌==◌, ◌&&◌, cond, List, [], ◌∷◌, length, Option, IsNone, is_some, sym, refl, arith}
use Rattle.std.specs.List.{AllByRecursion, AllPairs, filter}
use Rattle.std.proofs.lemmas.Bool.Decides.{nat_tests}
use Rattle.std.proofs.lemmas.List.Elements.{recursion_from_All}
use Rattle.fbc_levels.specs.declared.levels.Level.{Level}
use Rattle.fbc_levels.specs.declared.resources.Request.{Request}
use Rattle.fbc_levels.specs.LockState.{LockState, IsLawful, WaitOnce}
use Rattle.fbc_lock_table.proofs.Pairs.{AllPairs-head, AllPairs-tail}
use Rattle.fbc_owner_queues.specs.Living.{has}
use Rattle.fbc_legal.specs.Lives.{all_but, living}
use Rattle.fbc_world.specs.History.{History}
use Rattle.fbc_region.specs.Granting.{is_live_wait, waits_in}
use Rattle.fbc_region.specs.Kept.{IsOfCome}
use Rattle.fbc_region.proofs.Living.{has_all_but, has_living, less_all_but}

-- Who waits is among these owners.
abbrev WaitsAmong : List ℕ → Request → Type 0
WaitsAmong owners r = is_live_wait r ≡ true → has owners r.owner ≡ true

one_wait : (r t : Request) → WaitOnce r t → is_live_wait r ≡ true → is_live_wait t ≡ true → t.owner == r.owner ≡ false
one_wait r t once waits also = go (t.owner == r.owner) refl where
  some : (alive : Bool) (w : Option Level) → alive && is_some w ≡ true → is_some w ≡ true
  some true w is = is
  some false w is = absurd cc

  go : (b : Bool) → t.owner == r.owner ≡ b → b ≡ false
  go false is = refl
  go true is = absurd (clash (once (grind (arith, nat_tests, is)) (some r.alive r.waiting waits)) (some t.alive t.waiting also)) where
    clash : IsNone t.waiting → is_some t.waiting ≡ true → ⊥
    clash none is' = cc

-- Of the others none is this owner.
rest_among : (owners : List ℕ) (r : Request) → is_live_wait r ≡ true → (rs : List Request) → AllByRecursion (WaitOnce r) rs → AllByRecursion (WaitsAmong owners) rs
    → AllByRecursion (WaitsAmong (all_but r.owner owners)) rs
rest_among owners r waits [] once all = tt
rest_among owners r waits (t ∷ rs) once all =
    ((λ also. has_all_but r.owner t.owner owners ∙ other (one_wait r t once.0 waits also) (all.0 also)), rest_among owners r waits rs once.1 all.1) where
      other : t.owner == r.owner ≡ false → has owners t.owner ≡ true → not (r.owner == t.owner) && has owners t.owner ≡ true
      other apart there = grind (arith, nat_tests, apart, there)

few_among : (rs : List Request) (owners : List ℕ) → AllPairs WaitOnce rs → AllByRecursion (WaitsAmong owners) rs → length (filter is_live_wait rs) ≤ length owners
few_among [] owners once all = omega arith
few_among (r ∷ rs) owners once all =
    go (is_live_wait r) refl (λ others. few_among rs others (AllPairs-tail WaitOnce r rs once)) where
      go : (b : Bool) → is_live_wait r ≡ b → ((others : List ℕ) → AllByRecursion (WaitsAmong others) rs → length (filter is_live_wait rs) ≤ length others)
          → length (cond b (r ∷ filter is_live_wait rs) (filter is_live_wait rs)) ≤ length owners
      go true is few =
          omega (arith, few (all_but r.owner owners) (rest_among owners r is rs (recursion_from_All (WaitOnce r) rs (AllPairs-head WaitOnce r rs once)) all.1), less_all_but r.owner owners (all.0 is))
      go false is few = few owners all.1

come_among : (h : History) (rs : List Request) → AllByRecursion (IsOfCome h) rs → AllByRecursion (WaitsAmong (living h)) rs
come_among h [] all = tt
come_among h (r ∷ rs) all = ((λ waits. has_living h r.owner ∙ sym all.0.0 ∙ lives r waits), come_among h rs all.1) where
  lives : (r : Request) → is_live_wait r ≡ true → r.alive ≡ true
  lives r waits = grind (arith, waits)

pub few_wait : (s : LockState) (h : History) → IsLawful s → AllByRecursion (IsOfCome h) s.requests → waits_in s ≤ length (living h)
few_wait s h lawful come = few_among s.requests (living h) lawful.one_wait (come_among h s.requests come)
