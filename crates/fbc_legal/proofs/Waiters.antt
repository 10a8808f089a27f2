-- Which owners wait for which resources, by the list of requests, after each change of it.
use Rattle.std.proofs.Common.{◌≡◌, ◌∙◌, ◌⊎◌, inl, inr, ℕ, Bool, true, false, not, ◌==◌, ◌&&◌, ◌||◌, if◌then◌else◌, List, [], ◌∷◌, ◌++◌, map, Option, Some, None, is_some, refl, arith}
use Rattle.std.specs.List.{filter, find, list_any}
use Rattle.std.specs.Option.{option_and_then}
use Rattle.std.proofs.lemmas.Bool.Decides.{nat_tests}
use Rattle.std.proofs.lemmas.List.Folds.{list_any-append}
use Rattle.fbc_levels.specs.declared.levels.Level.{Level}
use Rattle.fbc_levels.specs.declared.levels.Level.TheVariants.{Free}
use Rattle.fbc_levels.specs.declared.resources.Request.{Request}
use Rattle.fbc_levels.specs.declared.resources.Resource.{Resource}
use Rattle.fbc_levels.specs.LockState.{LockState, is_of, is_wait_of, request_of, wait_of}
use Rattle.fbc_levels.specs.Resources.{is_same_resource}
use Rattle.fbc_lock_table.specs.Effects.{entered, is_bare_wait_of, new_request, with_granted, with_waiting, without_wait, withdrawn}
use Rattle.fbc_lock_table.proofs.Ways.{same_resource, same_resource-self}
use Rattle.fbc_world.specs.Locks.{lowered_to, waiting_of, with_grant}
use Rattle.fbc_world.proofs.Found.{find_passes}
use Rattle.fbc_legal.proofs.Exclusion.{same_number}
use Rattle.fbc_legal.proofs.ListTests.{any_filter, any_mapped, found_any, none_any, none_such}

-- Whether the owner waits for the resource by the request.
abbrev pub waits_by : ℕ → Resource → Request → Bool
waits_by owner resource r = is_of owner resource r && is_some r.waiting

-- Whether the owner waits for the resource.
abbrev pub waits_in : LockState → ℕ → Resource → Bool
waits_in s owner resource = list_any (waits_by owner resource) s.requests

module _ (owner : ℕ) (resource : Resource) where
  pub waits_of : (s : LockState) (r : Request) → wait_of s owner ≡ Some r → r.owner ≡ owner → r.resource ≡ resource → is_some r.waiting ≡ true → waits_in s owner resource ≡ true
  waits_of s r found its same waits = found_any (is_wait_of owner) (waits_by owner resource) r (grind (arith, nat_tests, its, same, waits, same_resource-self resource)) s.requests found

  pub waits_wanted : (s : LockState) (wanted : Level) → waiting_of s owner resource ≡ Some wanted → waits_in s owner resource ≡ true
  waits_wanted s wanted is = go (request_of s owner resource) refl is where
    go : (found : Option Request) → request_of s owner resource ≡ found → option_and_then (λ (r : Request). r.waiting) found ≡ Some wanted → waits_in s owner resource ≡ true
    go None stands waits = absurd cc
    go (Some r) stands waits = found_any (is_of owner resource) (waits_by owner resource) r (grind (arith, waits, find_passes (is_of owner resource) s.requests r stands)) s.requests stands

  pub waits_free : (s : LockState) → wait_of s owner ≡ None → waits_in s owner resource ≡ false
  waits_free s free = none_any (is_wait_of owner) (waits_by owner resource) (λ x is. grind (arith, is)) s.requests free

  -- A new request waits for nothing.
  entered_waits : (rs : List Request) (o : ℕ) (r : Resource) (word : ℕ) → list_any (waits_by owner resource) (entered rs o r word) ≡ list_any (waits_by owner resource) rs
  entered_waits rs o r word = go (is_some (find (is_of o r) rs)) where
    added : list_any (waits_by owner resource) (rs ++ new_request o r word ∷ []) ≡ list_any (waits_by owner resource) rs
    added = list_any-append (waits_by owner resource) rs (new_request o r word ∷ []) ∙ go' (list_any (waits_by owner resource) rs) (is_of owner resource (new_request o r word)) where
      go' : (a b : Bool) → a || (b && false || false) ≡ a
      go' a b = grind (arith)

    go : (b : Bool) → list_any (waits_by owner resource) (if b then rs else rs ++ new_request o r word ∷ []) ≡ list_any (waits_by owner resource) rs
    go true = refl
    go false = added

  -- Changes after which nobody waits who did not.
  abbrev Waited : List Request → List Request → Type 0
  Waited after before = list_any (waits_by owner resource) after ≡ true → list_any (waits_by owner resource) before ≡ true

  pub waited_map : (f : Request → Request) → ((x : Request) → waits_by owner resource (f x) ≡ true → waits_by owner resource x ≡ true) → (rs : List Request) → Waited (map f rs) rs
  waited_map f from rs = any_mapped (waits_by owner resource) (waits_by owner resource) f from rs

  pub waited_filter : (q : Request → Bool) (rs : List Request) → Waited (filter q rs) rs
  waited_filter q rs = any_filter (waits_by owner resource) q rs

  waited_entered : (f : Request → Request) → ((x : Request) → waits_by owner resource (f x) ≡ true → waits_by owner resource x ≡ true) → (rs : List Request) (o : ℕ) (r : Resource) (word : ℕ)
      → Waited (map f (entered rs o r word)) rs
  waited_entered f from rs o r word is = rw (entered_waits rs o r word) at (waited_map f from (entered rs o r word) is)

  -- An ask that waits.
  pub waits_queued : (rs : List Request) (o : ℕ) (r : Resource) (level : Level) (word : ℕ) → list_any (waits_by owner resource) (map (with_waiting o r level) (entered rs o r word)) ≡ true
      → (list_any (waits_by owner resource) rs ≡ true) ⊎ ((o ≡ owner) × (r ≡ resource))
  waits_queued rs o r level word is = go (o == owner) refl (is_same_resource r resource) refl where
    none : (x : Request) → (o == owner) && is_same_resource r resource ≡ false → waits_by owner resource (with_waiting o r level x) ≡ true → waits_by owner resource x ≡ true
    none x other waits = grind (arith, nat_tests, other, waits)

    go : (a : Bool) → o == owner ≡ a → (b : Bool) → is_same_resource r resource ≡ b → (list_any (waits_by owner resource) rs ≡ true) ⊎ ((o ≡ owner) × (r ≡ resource))
    go true its true same = inr (same_number o owner its, same_resource r resource same)
    go false other b same = inl (waited_entered (with_waiting o r level) (λ x. none x (grind (arith, other))) rs o r word is)
    go true its false other = inl (waited_entered (with_waiting o r level) (λ x. none x (grind (arith, its, other))) rs o r word is)

  -- A grant: who waits then waited before, for something else.
  pub waited_grant : (rs : List Request) (o : ℕ) (r : Resource) (level : Level) → Waited (map (with_grant o r level) (entered rs o r 0)) rs
  waited_grant rs o r level = waited_entered (with_grant o r level) (λ x is. grind (arith, is)) rs o r 0

  waits_not_true : (x : Request) (level : Level) → waits_by owner resource (with_grant owner resource level x) ≡ true → false ≡ true
  waits_not_true x level is = grind (arith, nat_tests, is)

  pub granted_waits_not : (rs : List Request) (level : Level) → list_any (waits_by owner resource) (map (with_grant owner resource level) rs) ≡ true → ⊥
  granted_waits_not rs level is = none_such rs (any_mapped (waits_by owner resource) (λ _. false) (with_grant owner resource level) (λ x. waits_not_true x level) rs is)

  pub waited_lower : (s : LockState) (o : ℕ) (r : Resource) (level : Level) → waits_in (lowered_to s o r level) owner resource ≡ true → waits_in s owner resource ≡ true
  waited_lower s o r Free is = waited_filter (λ x. not (is_of o r x)) s.requests is
  waited_lower s o r _ is = waited_entered (with_granted o r _) (λ x waits. waits) s.requests o r 0 is

  -- A withdrawal.
  pub waited_withdrawn : (s : LockState) (o : ℕ) → waits_in (withdrawn s o) owner resource ≡ true → waits_in s owner resource ≡ true
  waited_withdrawn s o is =
      waited_filter (λ x. not (is_bare_wait_of o x)) s.requests
      (waited_map (without_wait o) (λ x waits. grind (arith, waits)) (filter (λ x. not (is_bare_wait_of o x)) s.requests) is)

  pub withdrawn_waits_not : (s : LockState) → waits_in (withdrawn s owner) owner resource ≡ true → ⊥
  withdrawn_waits_not s is =
      none_such (filter (λ x. not (is_bare_wait_of owner x)) s.requests)
      (any_mapped (waits_by owner resource) (λ _. false) (without_wait owner) no (filter (λ x. not (is_bare_wait_of owner x)) s.requests) is) where
        no : (x : Request) → waits_by owner resource (without_wait owner x) ≡ true → false ≡ true
        no x waits = grind (arith, nat_tests, waits)
