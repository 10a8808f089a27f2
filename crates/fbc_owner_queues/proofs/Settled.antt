-- Grants come to an end, and a look tells them.
use Rattle.std.proofs.Common.{◌≡◌, ◌↔◌, ℕ, zero, suc, ◌+◌, ◌≤◌, Bool, true, false, cond, ◌&&◌, if◌then◌else◌, List, [], ◌∷◌, map, length, Option, Some, None, IfSome, is_some, is_none, refl, sym, ◌∙◌, ap, subst, arith}
use Rattle.std.specs.List.{find, list_any}
use Rattle.std.specs.Option.{option_map_or}
use Rattle.std.proofs.lemmas.Bool.Decides.{nat_tests}
use Rattle.fbc_levels.specs.declared.levels.Level.{Level}
use Rattle.fbc_levels.specs.declared.resources.Resource.{Resource}
use Rattle.fbc_levels.specs.declared.resources.Request.{Request}
use Rattle.fbc_levels.specs.Resources.{is_same_resource}
use Rattle.fbc_levels.specs.LockState.{LockState, Lives, is_dead_of, is_of, is_wait_of, wait_of, holder_of}
use Rattle.fbc_lock_table.specs.declared.answers.Looked.TheVariants as looked
use Rattle.fbc_lock_table.specs.Answers.{answer_to_look, answer_by_wait, answer_to_waiter, holder_of_wait}
use Rattle.fbc_lock_table.specs.Effects.{granting}
use Rattle.fbc_lock_table.proofs.Ways.{is_of-self, same_resource-self}
use Rattle.fbc_owner_queues.specs.Grants.{is_clear, is_grantable, next_grant, with_grant}
use Rattle.fbc_owner_queues.specs.Turns.{granted_times}

-- How many requests wait.
abbrev waiting : List Request → ℕ
waiting [] = 0
waiting (r ∷ rs) = if is_some r.waiting then 1 + waiting rs else waiting rs

most_wait : (rs : List Request) → waiting rs ≤ length rs
most_wait [] = omega arith
most_wait (r ∷ rs) = step (is_some r.waiting) (most_wait rs) where
  step : (b : Bool) → waiting rs ≤ length rs → (if b then 1 + waiting rs else waiting rs) ≤ suc (length rs)
  step true most = omega (arith, most)
  step false most = omega (arith, most)

-- None waits that did not.
granting_waits : (o : ℕ) (res : Resource) (r : Request) → is_some (granting o res r).waiting ≡ true → is_some r.waiting ≡ true
granting_waits o res r = step (is_of o res r) where
  step : (b : Bool) → is_some (if b then None else r.waiting) ≡ true → is_some r.waiting ≡ true
  step true is = absurd (cc)
  step false is = is

counted : (a b : Bool) (n m : ℕ) → (a ≡ true → b ≡ true) → n ≤ m → (if a then 1 + n else n) ≤ (if b then 1 + m else m)
counted true true n m keeps less = omega (arith, less)
counted true false n m keeps less = absurd (let there : false ≡ true = keeps refl in cc)
counted false true n m keeps less = omega (arith, less)
counted false false n m keeps less = less

no_more_wait : (o : ℕ) (res : Resource) (rs : List Request) → waiting (map (granting o res) rs) ≤ waiting rs
no_more_wait o res [] = omega arith
no_more_wait o res (r ∷ rs) = counted (is_some (granting o res r).waiting) (is_some r.waiting) _ _ (granting_waits o res r) (no_more_wait o res rs)

-- A request that can be granted waits.
clear_waits : (s : LockState) (w : Option Level) (owner : ℕ) (res : Resource) → option_map_or (λ level. is_none (holder_of s owner res level)) w false ≡ true → is_some w ≡ true
clear_waits s None owner res is = absurd (cc)
clear_waits s (Some level) owner res is = refl

second : (a b c : Bool) → (a && b && c) ≡ true → c ≡ true
second true true c is = is
second true false c is = absurd (cc)
second false b c is = absurd (cc)

grantable_waits : (s : LockState) (resource : Resource) (r : Request) → is_grantable s resource r ≡ true → is_some r.waiting ≡ true
grantable_waits s resource r is = clear_waits s r.waiting r.owner r.resource (second (is_same_resource r.resource resource) r.alive (is_clear s r) is)

-- A grant of one that is found leaves fewer that wait.
fewer_wait : (s : LockState) (resource : Resource) (rs : List Request) (r : Request) → find (is_grantable s resource) rs ≡ Some r → waiting (map (granting r.owner r.resource) rs) + 1 ≤ waiting rs
fewer_wait s resource [] r is = absurd (cc)
fewer_wait s resource (q ∷ rs) r is = step (is_grantable s resource q) refl is (fewer_wait s resource rs r) where
  FewerBy : Request → Type 0
  FewerBy t = waiting (map (granting t.owner t.resource) (q ∷ rs)) + 1 ≤ waiting (q ∷ rs)

  served : is_some (granting q.owner q.resource q).waiting ≡ false
  served = rw (is_of-self q) refl

  here : is_some q.waiting ≡ true → FewerBy q
  here waits = lost (is_some (granting q.owner q.resource q).waiting) (is_some q.waiting) _ _ served waits (no_more_wait q.owner q.resource rs) where
    lost : (a b : Bool) (n m : ℕ) → a ≡ false → b ≡ true → n ≤ m → (if a then 1 + n else n) + 1 ≤ (if b then 1 + m else m)
    lost true b n m is waits' less = absurd (cc)
    lost false true n m is waits' less = omega (arith, less)
    lost false false n m is waits' less = absurd (cc)

  later : (a b : Bool) (n m : ℕ) → (a ≡ true → b ≡ true) → n + 1 ≤ m → (if a then 1 + n else n) + 1 ≤ (if b then 1 + m else m)
  later true true n m keeps less = omega (arith, less)
  later true false n m keeps less = absurd (let there : false ≡ true = keeps refl in cc)
  later false true n m keeps less = omega (arith, less)
  later false false n m keeps less = less

  step : (b : Bool) → is_grantable s resource q ≡ b → cond b (Some q) (find (is_grantable s resource) rs) ≡ Some r → (find (is_grantable s resource) rs ≡ Some r → waiting (map (granting r.owner r.resource) rs) + 1 ≤ waiting rs) → waiting (map (granting r.owner r.resource) (q ∷ rs)) + 1 ≤ waiting (q ∷ rs)
  step true can found rest = let same : q ≡ r = cc in subst FewerBy same (here (grantable_waits s resource q can))
  step false can found rest = later (is_some (granting r.owner r.resource q).waiting) (is_some q.waiting) _ _ (granting_waits r.owner r.resource q) (rest found)

-- Once nobody can be granted, more grants change nothing.
stays : (n : ℕ) (resource : Resource) (s : LockState) → next_grant s resource ≡ None → next_grant (granted_times n resource s) resource ≡ None
stays zero resource s end = end
stays (suc n) resource s end =
    let Ended : Option Request → Type 0 = λ o. next_grant (granted_times n resource (with_grant s o)) resource ≡ None in
    subst Ended (sym end) (stays n resource s end)

ends : (n : ℕ) (resource : Resource) (s : LockState) → waiting s.requests ≤ n → next_grant (granted_times n resource s) resource ≡ None
ends zero resource s few = step (next_grant s resource) refl where
  step : (o : Option Request) → next_grant s resource ≡ o → next_grant s resource ≡ None
  step None is = is
  step (Some r) is = absurd (omega (arith, few, fewer_wait s resource s.requests r is))
ends (suc n) resource s few = step (next_grant s resource) refl (ends n resource) where
  step : (o : Option Request) → next_grant s resource ≡ o → ((t : LockState) → waiting t.requests ≤ n → next_grant (granted_times n resource t) resource ≡ None) → next_grant (granted_times n resource (with_grant s o)) resource ≡ None
  step None is on = stays n resource s is
  step (Some r) is on = on (with_grant s (Some r)) (omega (arith, few, fewer_wait s resource s.requests r is))

pub grants_end : (s : LockState) (resource : Resource) → next_grant (granted_times (length s.requests) resource s) resource ≡ None
grants_end s resource = ends (length s.requests) resource s (most_wait s.requests)

-- What is found passes and does not fail another test of all.
found_by : {X : Type 0} (p q : X → Bool) (xs : List X) (x : X) → find p xs ≡ Some x → find q xs ≡ None → (p x ≡ true) × (q x ≡ false)
found_by p q [] x is none = absurd (cc)
found_by {X} p q (y ∷ ys) x is none = step (p y) refl (q y) refl is none (found_by p q ys x) where
  step : (a : Bool) → p y ≡ a → (b : Bool) → q y ≡ b → cond a (Some y) (find p ys) ≡ Some x → cond b (Some y) (find q ys) ≡ None → (find p ys ≡ Some x → find q ys ≡ None → (p x ≡ true) × (q x ≡ false)) → (p x ≡ true) × (q x ≡ false)
  step a pa true qb is' none' rest = absurd (cc)
  step true pa false qb is' none' rest = let same : y ≡ x = cc in (ap p (sym same) ∙ pa, ap q (sym same) ∙ qb)
  step false pa false qb is' none' rest = rest is' none'

lives_by : {X : Type 0} (p d : X → Bool) (xs : List X) (x : X) → find p xs ≡ Some x → list_any d xs ≡ false → d x ≡ false
lives_by p d [] x is none = absurd (cc)
lives_by {X} p d (y ∷ ys) x is none = step (p y) (d y) refl is none (lives_by p d ys x) where
  step : (a b : Bool) → d y ≡ b → cond a (Some y) (find p ys) ≡ Some x → list_any d (y ∷ ys) ≡ false → (find p ys ≡ Some x → list_any d ys ≡ false → d x ≡ false) → d x ≡ false
  step a true db is' none' rest = absurd (let some : list_any d (y ∷ ys) ≡ true = rw db refl in cc)
  step true false db is' none' rest = let same : y ≡ x = cc in ap d (sym same) ∙ db
  step false false db is' none' rest = rest is' (rw db at none')

-- A look answers Granted to a wait only where nobody is in the way.
in_way : (s : LockState) (owner : ℕ) (res : Resource) (w : Option Level) → is_some w ≡ true → option_map_or (λ level. is_none (holder_of s owner res level)) w false ≡ false → answer_to_waiter (holder_of_wait s res w owner) ≡ looked.Granted → ⊥
in_way s owner res None waits not_clear is = absurd (cc)
in_way s owner res (Some level) waits not_clear is = step (holder_of s owner res level) not_clear is where
  step : (h : Option Request) → is_none h ≡ false → answer_to_waiter h ≡ looked.Granted → ⊥
  step None not_clear' is' = absurd (cc)
  step (Some h) not_clear' is' = by h.alive is' where
    by : (b : Bool) → (if b then looked.NotYet h.owner else looked.Dead h.owner) ≡ looked.Granted → ⊥
    by true is'' = absurd (cc)
    by false is'' = absurd (cc)

pub looks_tell : (s : LockState) (owner : ℕ) → Lives s owner → IfSome (wait_of s owner) (λ wait. next_grant s wait.resource ≡ None) → (answer_to_look s owner ≡ looked.Granted) ↔ (wait_of s owner ≡ None)
looks_tell s owner lives none = (step (wait_of s owner) refl none, λ idle. ap (answer_by_wait s owner) idle) where
  own : (r : Request) → is_wait_of owner r ≡ true → (r.owner ≡ owner) × (is_some r.waiting ≡ true)
  own r is = grind (arith, nat_tests)

  living : (r : Request) → is_dead_of owner r ≡ false → r.owner ≡ owner → r.alive ≡ true
  living r alike by = grind (arith, nat_tests)

  third : (a b c : Bool) → (a && b && c) ≡ false → a ≡ true → b ≡ true → c ≡ false
  third a b c is at bt = grind (arith)

  step : (o : Option Request) → wait_of s owner ≡ o → IfSome o (λ wait. next_grant s wait.resource ≡ None) → answer_by_wait s owner o ≡ looked.Granted → o ≡ None
  step None is none' granted = refl
  step (Some r) is none' granted =
      let facts = found_by (is_wait_of owner) (is_grantable s r.resource) s.requests r is none' in
      let mine = own r facts.0 in
      let alive = living r (lives_by (is_wait_of owner) (is_dead_of owner) s.requests r is lives) mine.0 in
      let blocked = third (is_same_resource r.resource r.resource) r.alive (is_clear s r) facts.1 (same_resource-self r.resource) alive in
      absurd (in_way s r.owner r.resource r.waiting mine.1 blocked (rw mine.0 granted))
