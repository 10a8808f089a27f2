-- Nobody waits to begin a transaction but who has just asked for its number with nobody in the way.
use Rattle.std.proofs.Common.{◌≡◌, ◌∙◌, ◌⊎◌, inl, inr, ℕ, Bool, true, false, not, ◌==◌, ◌&&◌, ◌||◌, if◌then◌else◌, List, [], ◌∷◌, ◌++◌, map, Option, Some, None, is_some, sym, refl, arith}
use Rattle.std.specs.List.{filter, find, list_any}
use Rattle.std.specs.Option.{option_map_or}
use Rattle.std.proofs.lemmas.Bool.Decides.{nat_tests}
use Rattle.std.proofs.lemmas.List.Folds.{list_any-append}
use Rattle.fbc_levels.specs.declared.levels.Level.{Level}
use Rattle.fbc_levels.specs.declared.levels.Level.TheVariants.{Free}
use Rattle.fbc_levels.specs.declared.resources.Request.{Request}
use Rattle.fbc_levels.specs.declared.resources.Resource.{Resource}
use Rattle.fbc_levels.specs.LockState.{LockState, is_of}
use Rattle.fbc_levels.specs.Resources.{is_same_resource}
use Rattle.fbc_lock_table.specs.declared.answers.Asked.{Asked}
use Rattle.fbc_lock_table.specs.declared.answers.Asked.TheVariants.{Granted, Queued}
use Rattle.fbc_lock_table.specs.Answers.{answer_to_ask}
use Rattle.fbc_lock_table.specs.Effects.{after_ask, entered, is_bare_wait_of, new_request, of_dead, with_granted, with_waiting, without_wait, withdrawn}
use Rattle.fbc_lock_table.proofs.Ways.{same_resource}
use Rattle.fbc_owner_queues.specs.Circles.{circle_from}
use Rattle.fbc_legal.proofs.Exclusion.{same_number}
use Rattle.fbc_legal.proofs.ListTests.{any_filter, any_implied, any_mapped}
use Rattle.fbc_legal.proofs.Waiters.{waits_by, waits_in}
use Rattle.fbc_world.specs.declared.events.Act.{Act}
use Rattle.fbc_world.specs.declared.events.Act.TheVariants.{Ask, Die, Grant, Lower, Opened, Reap, Withdraw, Write}
use Rattle.fbc_world.specs.Locks.{asked, locks_step, lowered_to, unless_circle, with_grant}
use Rattle.fbc_world.specs.World.{is_begin}

-- Whether the owner waits by the request for the resource in a level that begins a transaction.
abbrev pub begins_by : ℕ → Resource → Request → Bool
begins_by owner resource r = is_of owner resource r && option_map_or (is_begin resource) r.waiting false

abbrev pub begins_in : LockState → ℕ → Resource → Bool
begins_in s owner resource = list_any (begins_by owner resource) s.requests

module _ (owner : ℕ) (resource : Resource) where
  abbrev Began : List Request → List Request → Type 0
  Began after before = list_any (begins_by owner resource) after ≡ true → list_any (begins_by owner resource) before ≡ true

  pub begins_wait : (s : LockState) → begins_in s owner resource ≡ true → waits_in s owner resource ≡ true
  begins_wait s is = any_implied (begins_by owner resource) (waits_by owner resource) (λ x here. one (is_of owner resource x) x.waiting here) s.requests is where
    one : (b : Bool) (w : Option Level) → b && option_map_or (is_begin resource) w false ≡ true → b && is_some w ≡ true
    one true None here = absurd cc
    one true (Some level) here = refl
    one false w here = absurd cc

  begins_entered : (rs : List Request) (o : ℕ) (r : Resource) (word : ℕ) → list_any (begins_by owner resource) (entered rs o r word) ≡ list_any (begins_by owner resource) rs
  begins_entered rs o r word = go (is_some (find (is_of o r) rs)) where
    added : list_any (begins_by owner resource) (rs ++ new_request o r word ∷ []) ≡ list_any (begins_by owner resource) rs
    added = list_any-append (begins_by owner resource) rs (new_request o r word ∷ []) ∙ alone (list_any (begins_by owner resource) rs) (is_of owner resource (new_request o r word)) where
      alone : (a b : Bool) → a || (b && false || false) ≡ a
      alone a b = grind (arith)

    go : (b : Bool) → list_any (begins_by owner resource) (if b then rs else rs ++ new_request o r word ∷ []) ≡ list_any (begins_by owner resource) rs
    go true = refl
    go false = added

  began_map : (f : Request → Request) → ((x : Request) → begins_by owner resource (f x) ≡ true → begins_by owner resource x ≡ true) → (rs : List Request) → Began (map f rs) rs
  began_map f from rs = any_mapped (begins_by owner resource) (begins_by owner resource) f from rs

  began_entered : (f : Request → Request) → ((x : Request) → begins_by owner resource (f x) ≡ true → begins_by owner resource x ≡ true) → (rs : List Request) (o : ℕ) (r : Resource) (word : ℕ)
      → Began (map f (entered rs o r word)) rs
  began_entered f from rs o r word is = rw (begins_entered rs o r word) at (began_map f from (entered rs o r word) is)

  began_filter : (q : Request → Bool) (rs : List Request) → Began (filter q rs) rs
  began_filter q rs = any_filter (begins_by owner resource) q rs

  -- A change that ends some waits.
  ends_wait : (f : Request → Request) (ends : Request → Bool) (x : Request) → is_of owner resource (f x) ≡ is_of owner resource x → (f x).waiting ≡ (if ends x then None else x.waiting)
      → begins_by owner resource (f x) ≡ true → begins_by owner resource x ≡ true
  ends_wait f ends x same is here = go (is_of owner resource x) (ends x) x.waiting (rw (same, is) at here) where
    go : (b e : Bool) (w : Option Level) → b && option_map_or (is_begin resource) (if e then None else w) false ≡ true → b && option_map_or (is_begin resource) w false ≡ true
    go true true w here' = absurd cc
    go true false w here' = here'
    go false e w here' = absurd cc

  -- The owner asks to begin.
  abbrev pub IsBeginOf : ℕ → Resource → Level → Type 0
  IsBeginOf actor r level = (actor ≡ owner) × (r ≡ resource) × (is_begin resource level ≡ true)

  begins_queued : (rs : List Request) (o : ℕ) (r : Resource) (level : Level) (word : ℕ) → list_any (begins_by owner resource) (map (with_waiting o r level) (entered rs o r word)) ≡ true
      → (list_any (begins_by owner resource) rs ≡ true) ⊎ IsBeginOf o r level
  begins_queued rs o r level word is = go (o == owner) refl (is_same_resource r resource) refl (is_begin resource level) refl where
    apart : (x : Request) → (o == owner) && is_same_resource r resource ≡ false → begins_by owner resource (with_waiting o r level x) ≡ true → begins_by owner resource x ≡ true
    apart x other here = grind (arith, nat_tests, other, here)

    below : is_begin resource level ≡ false → (x : Request) → begins_by owner resource (with_waiting o r level x) ≡ true → begins_by owner resource x ≡ true
    below low x here = step (is_of owner resource x) (is_of o r x) x.waiting here where
      step : (b e : Bool) (w : Option Level) → b && option_map_or (is_begin resource) (if e then Some level else w) false ≡ true → b && option_map_or (is_begin resource) w false ≡ true
      step true true w here' = absurd (let no : false ≡ true = sym low ∙ here' in cc)
      step true false w here' = here'
      step false e w here' = absurd cc

    go : (a : Bool) → o == owner ≡ a → (b : Bool) → is_same_resource r resource ≡ b → (c : Bool) → is_begin resource level ≡ c → (list_any (begins_by owner resource) rs ≡ true) ⊎ IsBeginOf o r level
    go true its true same true high = inr (same_number o owner its, same_resource r resource same, high)
    go a its b same false low = inl (began_entered (with_waiting o r level) (below low) rs o r word is)
    go false other b same true high = inl (began_entered (with_waiting o r level) (λ x. apart x (rw other refl)) rs o r word is)
    go true its false other true high = inl (began_entered (with_waiting o r level) (λ x. apart x (rw (its, other) refl)) rs o r word is)

  began_withdrawn : (s : LockState) (o : ℕ) → begins_in (withdrawn s o) owner resource ≡ true → begins_in s owner resource ≡ true
  began_withdrawn s o is =
      began_filter (λ x. not (is_bare_wait_of o x)) s.requests
      (began_map (without_wait o) (λ x. ends_wait (without_wait o) (λ y. y.owner == o) x refl refl) (filter (λ x. not (is_bare_wait_of o x)) s.requests) is)

  module _ (s : LockState) (actor : ℕ) where
    abbrev pub IsBeginAct : Act → Type 0
    IsBeginAct (Ask r level wait word) = IsBeginOf actor r level
    IsBeginAct _ = ⊥

    unless : (a : LockState) → begins_in (unless_circle a actor) owner resource ≡ true → begins_in a owner resource ≡ true
    unless a is = go (is_some (circle_from a actor)) is where
      go : (b : Bool) → begins_in (if b then withdrawn a actor else a) owner resource ≡ true → begins_in a owner resource ≡ true
      go true here = began_withdrawn a actor here
      go false here = here

    asking : (r : Resource) (level : Level) (word : ℕ) (answer : Asked) → begins_in (asked s actor r level word answer) owner resource ≡ true → (begins_in s owner resource ≡ true) ⊎ IsBeginOf actor r level
    asking r level word Granted is = begins_queued s.requests actor r level word is
    asking r level word Queued is = begins_queued s.requests actor r level word (unless (after_ask s actor r level word Queued) is)
    asking r level word _ is = inl is

    dying : begins_in (locks_step s actor Die) owner resource ≡ true → begins_in s owner resource ≡ true
    dying is = began_map (of_dead actor) (λ x here. here) s.requests is

    lowering : (r : Resource) (level : Level) → begins_in (lowered_to s actor r level) owner resource ≡ true → begins_in s owner resource ≡ true
    lowering r Free is = began_filter (λ x. not (is_of actor r x)) s.requests is
    lowering r _ is = began_entered (with_granted actor r _) (λ x here. here) s.requests actor r 0 is

    pub begins_step : (act : Act) → begins_in (locks_step s actor act) owner resource ≡ true → (begins_in s owner resource ≡ true) ⊎ IsBeginAct act
    begins_step (Opened locks) is = absurd cc
    begins_step (Ask r level wait word) is = asking r level word (answer_to_ask s actor r level wait) is
    begins_step (Grant r level) is = inl (began_entered (with_grant actor r level) (λ x. ends_wait (with_grant actor r level) (is_of actor r) x refl refl) s.requests actor r 0 is)
    begins_step Withdraw is = inl (began_withdrawn s actor is)
    begins_step (Lower r level) is = inl (lowering r level is)
    begins_step (Reap dead by) is = inl (began_filter (λ x. not (x.owner == dead)) s.requests is)
    begins_step (Write page cause true) is = inl (dying is)
    begins_step (Write page cause false) is = inl is
    begins_step Die is = inl (dying is)
    begins_step _ is = inl is
