-- The requests of two owners, of which the first asks for a page and gives it back, and the second holds other pages.
use Rattle.std.proofs.Common.{◌≡◌, ◌∙◌, ℕ, ◌+◌, Bool, true, false, not, cond, if◌then◌else◌, List, [], ◌∷◌, ◌++◌, map, filter, Some, None, is_some, sym, subst, refl, arith}
use Rattle.std.specs.List.{AllByRecursion, find, list_any}
use Rattle.std.proofs.lemmas.Bool.Decides.{nat_tests}
use Rattle.fbc_levels.specs.declared.levels.Level.{Level}
use Rattle.fbc_levels.specs.declared.levels.Level.TheVariants.{Ex, Free, Null, Pr, Pw, Sr, Sw}
use Rattle.fbc_levels.specs.declared.resources.Request.{Request}
use Rattle.fbc_levels.specs.declared.resources.Resource.{Resource}
use Rattle.fbc_levels.specs.Levels.{join}
use Rattle.fbc_levels.specs.LockState.{LockState, is_dead_of, is_of, is_wait_of}
use Rattle.fbc_lock_table.specs.Answers.{MayAsk}
use Rattle.fbc_lock_table.specs.Effects.{entered, new_request, with_granted}
use Rattle.fbc_owner_queues.specs.Grants.{is_by}
use Rattle.fbc_levels.specs.Resources.{page_resource}
use Rattle.fbc_step_benchmarks.specs.Steps.{IsHeldBelow, IsOthers, IsOthersOrPage}

-- What is no level takes nothing from another.
pub join_free : (level : Level) → join level Free ≡ level
join_free Free = refl
join_free Null = refl
join_free Sr = refl
join_free Pr = refl
join_free Sw = refl
join_free Pw = refl
join_free Ex = refl

-- Facts of all requests through the changes of a list.
pub all_map : (P Q : Request → Type 0) (f : Request → Request) → ((r : Request) → P r → Q (f r)) → (rs : List Request) → AllByRecursion P rs → AllByRecursion Q (map f rs)
all_map P Q f keeps [] all = tt
all_map P Q f keeps (r ∷ rs) all = (keeps r all.0, all_map P Q f keeps rs all.1)

all_with : (P : Request → Type 0) (rs : List Request) (r : Request) → AllByRecursion P rs → P r → AllByRecursion P (rs ++ r ∷ [])
all_with P [] r all it = (it, tt)
all_with P (x ∷ rs) r all it = (all.0, all_with P rs r all.1 it)

pub all_entered : (P : Request → Type 0) (rs : List Request) (owner : ℕ) (resource : Resource) (word : ℕ) → AllByRecursion P rs → P (new_request owner resource word)
    → AllByRecursion P (entered rs owner resource word)
all_entered P rs owner resource word all new = go (is_some (find (is_of owner resource) rs)) where
  go : (b : Bool) → AllByRecursion P (if b then rs else rs ++ new_request owner resource word ∷ [])
  go true = all
  go false = all_with P rs (new_request owner resource word) all new

-- What was found is one of them.
pub found_is : (P : Request → Type 0) (test : Request → Bool) (rs : List Request) (r : Request) → AllByRecursion P rs → find test rs ≡ Some r → P r
found_is P test [] r all is = absurd cc
found_is P test (x ∷ rs) r all is = go (test x) is (found_is P test rs r all.1) where
  go : (b : Bool) → (if b then Some x else find test rs) ≡ Some r → (find test rs ≡ Some r → P r) → P r
  go true here rest = let same : x ≡ r = cc in subst P same all.0
  go false there rest = rest there

-- The second owner asks for the next page.
pub held_asked : (page : ℕ) (rs : List Request) → AllByRecursion (IsHeldBelow page) rs
    → AllByRecursion (IsHeldBelow (page + 1)) (map (with_granted 2 (page_resource page) Ex) (entered rs 2 (page_resource page) 0))
held_asked page rs held =
    all_map (IsHeldBelow (page + 1)) (IsHeldBelow (page + 1)) (with_granted 2 (page_resource page) Ex) (λ r it. it) (entered rs 2 (page_resource page) 0)
    (all_entered (IsHeldBelow (page + 1)) rs 2 (page_resource page) 0 (wider rs held) (refl, omega arith, refl, refl)) where
      wider : (xs : List Request) → AllByRecursion (IsHeldBelow page) xs → AllByRecursion (IsHeldBelow (page + 1)) xs
      wider [] all = tt
      wider (x ∷ xs) all = ((all.0.0, omega (arith, all.0.1), all.0.2, all.0.3), wider xs all.1)

pub held_lives : (page : ℕ) (rs : List Request) → AllByRecursion (IsHeldBelow page) rs → list_any (is_dead_of 2) rs ≡ false
held_lives page [] held = refl
held_lives page (r ∷ rs) held = grind (arith, nat_tests, held.0.3, held_lives page rs held.1)

pub held_waits : (page : ℕ) (rs : List Request) → AllByRecursion (IsHeldBelow page) rs → find (is_wait_of 2) rs ≡ None
held_waits page [] held = refl
held_waits page (r ∷ rs) held = grind (arith, nat_tests, held.0.2, held_waits page rs held.1)

pub held_fresh : (page : ℕ) (rs : List Request) → AllByRecursion (IsHeldBelow page) rs → find (is_of 2 (page_resource page)) rs ≡ None
held_fresh page [] held = refl
held_fresh page (r ∷ rs) held = grind (arith, nat_tests, held.0.1, held_fresh page rs held.1)

pub held_may : (page : ℕ) (s : LockState) → AllByRecursion (IsHeldBelow page) s.requests → MayAsk s 2 (page_resource page) Ex
held_may page s held = record {
  lives = held_lives page s.requests held;
  waits_for_nothing = held_waits page s.requests held;
  some_level = λ same. cc;
  new_page = λ is. held_fresh page s.requests held;
}

-- None of them is the first owner's.
pub held_others : (page : ℕ) (rs : List Request) → AllByRecursion (IsHeldBelow page) rs → AllByRecursion IsOthers rs
held_others page [] held = tt
held_others page (r ∷ rs) held = (rw held.0.0 refl, held_others page rs held.1)

-- An owner without requests may ask for each page.
pub others_live : (rs : List Request) → AllByRecursion IsOthers rs → list_any (is_dead_of 1) rs ≡ false
others_live [] others = refl
others_live (r ∷ rs) others = grind (arith, nat_tests, others.0, others_live rs others.1)

pub others_wait : (rs : List Request) → AllByRecursion IsOthers rs → find (is_wait_of 1) rs ≡ None
others_wait [] others = refl
others_wait (r ∷ rs) others = grind (arith, nat_tests, others.0, others_wait rs others.1)

pub others_have : (resource : Resource) (rs : List Request) → AllByRecursion IsOthers rs → find (is_of 1 resource) rs ≡ None
others_have resource [] others = refl
others_have resource (r ∷ rs) others = grind (arith, nat_tests, others.0, others_have resource rs others.1)

pub free_may : (s : LockState) (page : ℕ) → AllByRecursion IsOthers s.requests → MayAsk s 1 (page_resource page) Ex
free_may s page others = record {
  lives = others_live s.requests others;
  waits_for_nothing = others_wait s.requests others;
  some_level = λ same. cc;
  new_page = λ is. others_have (page_resource page) s.requests others;
}

-- Its first request is for that page.
pub only_asked : (rs : List Request) → AllByRecursion IsOthers rs → AllByRecursion IsOthersOrPage (map (with_granted 1 (page_resource 0) Ex) (entered rs 1 (page_resource 0) 0))
only_asked rs others =
    all_map IsOthersOrPage IsOthersOrPage (with_granted 1 (page_resource 0) Ex) (λ r it. it) (entered rs 1 (page_resource 0) 0)
    (all_entered IsOthersOrPage rs 1 (page_resource 0) 0 (weaker rs others) (λ own. refl)) where
      weaker : (xs : List Request) → AllByRecursion IsOthers xs → AllByRecursion IsOthersOrPage xs
      weaker [] all = tt
      weaker (x ∷ xs) all = ((λ own. absurd (let clash : true ≡ false = sym own ∙ all.0 in cc)), weaker xs all.1)

-- Without it it has none.
pub others_without : (rs : List Request) → AllByRecursion IsOthersOrPage rs → AllByRecursion IsOthers (filter (λ r. not (is_of 1 (page_resource 0) r)) rs)
others_without [] only = tt
others_without (r ∷ rs) only = go (is_of 1 (page_resource 0) r) refl (is_by 1 r) refl (others_without rs only.1) where
  go : (b : Bool) → is_of 1 (page_resource 0) r ≡ b → (own : Bool) → is_by 1 r ≡ own → AllByRecursion IsOthers (filter (λ x. not (is_of 1 (page_resource 0) x)) rs)
      → AllByRecursion IsOthers (cond (not b) (r ∷ filter (λ x. not (is_of 1 (page_resource 0) x)) rs) (filter (λ x. not (is_of 1 (page_resource 0) x)) rs))
  go true is own by rest = rest
  go false is false by rest = (by, rest)
  go false is true by rest = absurd (let clash : true ≡ false = sym (only.0 by) ∙ is in cc)
