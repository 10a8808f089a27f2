-- Who has a request after an event had it before, or has just asked for it.
use Rattle.std.proofs.Common.{◌≡◌, ◌⊎◌, inl, inr, ℕ, Bool, true, false, not, ◌==◌, ◌&&◌, ◌||◌, if◌then◌else◌, List, [], ◌∷◌, ◌++◌, map, Option, Some, None, is_some, sym, refl, arith}
use Rattle.std.specs.List.{filter, find, list_any}
use Rattle.std.specs.Option.{option_and_then, option_map_or}
use Rattle.std.proofs.lemmas.Bool.Decides.{nat_tests}
use Rattle.std.proofs.lemmas.List.Folds.{list_any-append}
use Rattle.fbc_levels.specs.declared.levels.Level.{Level}
use Rattle.fbc_levels.specs.declared.levels.Level.TheVariants.{Ex, Free, Null, Pr, Pw, Sr, Sw}
use Rattle.fbc_levels.specs.declared.resources.Request.{Request}
use Rattle.fbc_levels.specs.declared.resources.Resource.{Resource}
use Rattle.fbc_levels.specs.Levels.{is_free, join}
use Rattle.fbc_levels.specs.LockState.{LockState, granted_of, is_of, request_of}
use Rattle.fbc_levels.specs.Resources.{is_same_resource}
use Rattle.fbc_lock_table.specs.declared.answers.Asked.{Asked}
use Rattle.fbc_lock_table.specs.declared.answers.Asked.TheVariants.{Granted, Queued}
use Rattle.fbc_lock_table.specs.Answers.{answer_to_ask}
use Rattle.fbc_lock_table.specs.Effects.{after_ask, entered, is_bare_wait_of, new_request, of_dead, with_granted, with_waiting, without_wait, withdrawn}
use Rattle.fbc_lock_table.proofs.Ways.{same_resource, same_resource-self}
use Rattle.fbc_owner_queues.specs.Circles.{circle_from}
use Rattle.fbc_legal.proofs.Exclusion.{same_number}
use Rattle.fbc_legal.proofs.ListTests.{any_filter, any_implied, any_mapped}
use Rattle.fbc_world.specs.declared.events.Act.{Act}
use Rattle.fbc_world.specs.declared.events.Act.TheVariants.{Ask, Die, Grant, Lower, Opened, Reap, Withdraw, Write}
use Rattle.fbc_world.specs.Locks.{asked, locks_step, lowered_to, waiting_of, with_grant}

-- Whether the owner has a request for the resource.
abbrev pub has_in : List Request → ℕ → Resource → Bool
has_in rs owner resource = list_any (is_of owner resource) rs

-- An ask after which its owner waits.
abbrev pub StaysAsked : LockState → ℕ → Resource → Level → Bool → ℕ → Type 0
StaysAsked s owner resource level wait word =
    (answer_to_ask s owner resource level wait ≡ Granted)
    ⊎ ((answer_to_ask s owner resource level wait ≡ Queued) × (circle_from (after_ask s owner resource level word Queued) owner ≡ None))

-- What a grant and a lowering owe for it that a request is there.
abbrev pub IsThere : LockState → ℕ → Act → Type 0
IsThere s actor (Grant resource level) = waiting_of s actor resource ≡ Some level
IsThere s actor (Lower resource level) = join (granted_of s actor resource) level ≡ granted_of s actor resource
IsThere s actor _ = Unit {0}

module _ (owner : ℕ) (resource : Resource) where
  abbrev Had : List Request → List Request → Type 0
  Had after before = has_in after owner resource ≡ true → has_in before owner resource ≡ true

  had_map : (f : Request → Request) → ((x : Request) → is_of owner resource (f x) ≡ true → is_of owner resource x ≡ true) → (rs : List Request) → Had (map f rs) rs
  had_map f from rs = any_mapped (is_of owner resource) (is_of owner resource) f from rs

  had_filter : (q : Request → Bool) (rs : List Request) → Had (filter q rs) rs
  had_filter q rs = any_filter (is_of owner resource) q rs

  -- A request is entered where there is one already.
  had_there : (rs : List Request) (o : ℕ) (r : Resource) (word : ℕ) → is_some (find (is_of o r) rs) ≡ true → entered rs o r word ≡ rs
  had_there rs o r word there = rw there refl

  new_is : (o : ℕ) (r : Resource) (word : ℕ) → is_of owner resource (new_request o r word) ≡ true → (o ≡ owner) × (r ≡ resource)
  new_is o r word is = go (o == owner) refl (is_same_resource r resource) refl is where
    go : (a : Bool) → o == owner ≡ a → (b : Bool) → is_same_resource r resource ≡ b → a && b ≡ true → (o ≡ owner) × (r ≡ resource)
    go true its true same is' = (same_number o owner its, same_resource r resource same)
    go true its false same is' = absurd cc
    go false its b same is' = absurd cc

  had_entered : (rs : List Request) (o : ℕ) (r : Resource) (word : ℕ) → has_in (entered rs o r word) owner resource ≡ true → (has_in rs owner resource ≡ true) ⊎ ((o ≡ owner) × (r ≡ resource))
  had_entered rs o r word is = go (is_some (find (is_of o r) rs)) is where
    added : (a b : Bool) → a ≡ has_in rs owner resource → b ≡ is_of owner resource (new_request o r word) → a || (b || false) ≡ true → (has_in rs owner resource ≡ true) ⊎ ((o ≡ owner) × (r ≡ resource))
    added true b had new is' = inl (sym had)
    added false true had new is' = inr (new_is o r word (sym new))
    added false false had new is' = absurd cc

    go : (b : Bool) → has_in (if b then rs else rs ++ new_request o r word ∷ []) owner resource ≡ true → (has_in rs owner resource ≡ true) ⊎ ((o ≡ owner) × (r ≡ resource))
    go true is' = inl is'
    go false is' = added (has_in rs owner resource) (is_of owner resource (new_request o r word)) refl refl (rw (list_any-append (is_of owner resource) rs (new_request o r word ∷ [])) at is')

  had_queued : (rs : List Request) (o : ℕ) (r : Resource) (level : Level) (word : ℕ) → has_in (map (with_waiting o r level) (entered rs o r word)) owner resource ≡ true
      → (has_in rs owner resource ≡ true) ⊎ ((o ≡ owner) × (r ≡ resource))
  had_queued rs o r level word is = had_entered rs o r word (had_map (with_waiting o r level) (λ x here. here) (entered rs o r word) is)

  -- An ask that is withdrawn at once enters nothing.
  had_withdrawn : (s : LockState) (o : ℕ) (r : Resource) (level : Level) (word : ℕ) → has_in (withdrawn (after_ask s o r level word Queued) o).requests owner resource ≡ true → has_in s.requests owner resource ≡ true
  had_withdrawn s o r level word is =
      go (is_some (find (is_of o r) s.requests)) (any_mapped stays stays_too (with_waiting o r level) (λ x here. here) (entered s.requests o r word) (kept_any (map (with_waiting o r level) (entered s.requests o r word)) (had_map (without_wait o) (λ x here. here) _ is))) where
        stays : Request → Bool
        stays x = is_of owner resource x && not (is_bare_wait_of o x)

        stays_too : Request → Bool
        stays_too x = stays (with_waiting o r level x)

        kept_any : (rs : List Request) → has_in (filter (λ x. not (is_bare_wait_of o x)) rs) owner resource ≡ true → list_any stays rs ≡ true
        kept_any [] here = here
        kept_any (x ∷ rs) here = step (is_bare_wait_of o x) refl here (kept_any rs) where
          step : (b : Bool) → is_bare_wait_of o x ≡ b → has_in (if not b then x ∷ filter (λ y. not (is_bare_wait_of o y)) rs else filter (λ y. not (is_bare_wait_of o y)) rs) owner resource ≡ true
              → (has_in (filter (λ y. not (is_bare_wait_of o y)) rs) owner resource ≡ true → list_any stays rs ≡ true) → stays x || list_any stays rs ≡ true
          step true bare here' rest = rw bare (both (is_of owner resource x) (rest here')) where
            both : (a : Bool) {c : Bool} → c ≡ true → (a && false) || c ≡ true
            both a is' = grind (arith, is')
          step false bare here' rest = grind (arith, bare, here', rest)

        new_goes : stays_too (new_request o r word) ≡ false
        new_goes = let own : is_of o r (new_request o r word) ≡ true = rw (same_resource-self r) (grind (arith, nat_tests)) in grind (arith, nat_tests, own)

        passes : (x : Request) → stays_too x ≡ true → is_of owner resource x ≡ true
        passes x here = grind (arith, here)

        go : (b : Bool) → list_any stays_too (if b then s.requests else s.requests ++ new_request o r word ∷ []) ≡ true → has_in s.requests owner resource ≡ true
        go true here = any_implied stays_too (is_of owner resource) passes s.requests here
        go false here =
            any_implied stays_too (is_of owner resource) passes s.requests
            (alone (list_any stays_too s.requests) (stays_too (new_request o r word)) new_goes (rw (list_any-append stays_too s.requests (new_request o r word ∷ [])) at here)) where
              alone : (a b : Bool) → b ≡ false → a || (b || false) ≡ true → a ≡ true
              alone a b none is' = grind (arith, none, is')

  -- Where a request is there, no new one is entered.
  waits_there : (s : LockState) (o : ℕ) (r : Resource) (level : Level) → waiting_of s o r ≡ Some level → is_some (request_of s o r) ≡ true
  waits_there s o r level is = go (request_of s o r) is where
    go : (found : Option Request) → option_and_then (λ (x : Request). x.waiting) found ≡ Some level → is_some found ≡ true
    go None is' = absurd cc
    go (Some x) is' = refl

  lowered_there : (s : LockState) (o : ℕ) (r : Resource) (level : Level) → is_free level ≡ false → join (granted_of s o r) level ≡ granted_of s o r → is_some (request_of s o r) ≡ true
  lowered_there s o r level some part = go (request_of s o r) part where
    none : (l : Level) → is_free l ≡ false → join Free l ≡ Free → ⊥
    none l some' is = grind (arith, some', is)

    go : (found : Option Request) → join (option_map_or (λ (x : Request). x.granted) found Free) level ≡ option_map_or (λ (x : Request). x.granted) found Free → is_some found ≡ true
    go None part' = absurd (none level some part')
    go (Some x) part' = refl

  module _ (s : LockState) (actor : ℕ) where
    abbrev Has : LockState → Type 0
    Has t = has_in t.requests owner resource ≡ true

    -- The owner has just asked for the resource, and waits.
    abbrev pub IsNewAsk : Act → Type 0
    IsNewAsk (Ask r level wait word) = (actor ≡ owner) × (r ≡ resource) × StaysAsked s actor r level wait word
    IsNewAsk _ = ⊥

    asking : (r : Resource) (level : Level) (wait : Bool) (word : ℕ) (told : Asked) → answer_to_ask s actor r level wait ≡ told → Has (asked s actor r level word told) → Has s ⊎ IsNewAsk (Ask r level wait word)
    asking r level wait word Granted is here = go (had_queued s.requests actor r level word here) where
      go : Has s ⊎ ((actor ≡ owner) × (r ≡ resource)) → Has s ⊎ IsNewAsk (Ask r level wait word)
      go (inl had) = inl had
      go (inr own) = inr (own.0, own.1, inl is)
    asking r level wait word Queued is here = go (circle_from (after_ask s actor r level word Queued) actor) refl here where
      new : circle_from (after_ask s actor r level word Queued) actor ≡ None → Has s ⊎ ((actor ≡ owner) × (r ≡ resource)) → Has s ⊎ IsNewAsk (Ask r level wait word)
      new closes (inl had) = inl had
      new closes (inr own) = inr (own.0, own.1, inr (is, closes))

      go : (circle : Option (List ℕ)) → circle_from (after_ask s actor r level word Queued) actor ≡ circle
          → Has (if is_some circle then withdrawn (after_ask s actor r level word Queued) actor else after_ask s actor r level word Queued) → Has s ⊎ IsNewAsk (Ask r level wait word)
      go None closes here' = new closes (had_queued s.requests actor r level word here')
      go (Some circle) closes here' = inl (had_withdrawn s actor r level word here')
    asking r level wait word _ is here = inl here

    less : (r : Resource) (level : Level) → is_free level ≡ false → join (granted_of s actor r) level ≡ granted_of s actor r → has_in (map (with_granted actor r level) (entered s.requests actor r 0)) owner resource ≡ true → Has s
    less r level some part here =
        rw (had_there s.requests actor r 0 (lowered_there s actor r level some part)) at (had_map (with_granted actor r level) (λ x is. is) (entered s.requests actor r 0) here)

    lowering : (r : Resource) (level : Level) → join (granted_of s actor r) level ≡ granted_of s actor r → Has (lowered_to s actor r level) → Has s
    lowering r Free part here = had_filter (λ x. not (is_of actor r x)) s.requests here
    lowering r Null part here = less r Null refl part here
    lowering r Sr part here = less r Sr refl part here
    lowering r Pr part here = less r Pr refl part here
    lowering r Sw part here = less r Sw refl part here
    lowering r Pw part here = less r Pw refl part here
    lowering r Ex part here = less r Ex refl part here

    pub has_step : (act : Act) → IsThere s actor act → Has (locks_step s actor act) → Has s ⊎ IsNewAsk act
    has_step (Opened locks) there here = absurd cc
    has_step (Ask r level wait word) there here = asking r level wait word (answer_to_ask s actor r level wait) refl here
    has_step (Grant r level) there here =
        inl (rw (had_there s.requests actor r 0 (waits_there s actor r level there)) at (had_map (with_grant actor r level) (λ x is. is) (entered s.requests actor r 0) here))
    has_step Withdraw there here = inl (had_filter (λ x. not (is_bare_wait_of actor x)) s.requests (had_map (without_wait actor) (λ x is. is) (filter (λ x. not (is_bare_wait_of actor x)) s.requests) here))
    has_step (Lower r level) there here = inl (lowering r level there here)
    has_step (Reap dead by) there here = inl (had_filter (λ x. not (x.owner == dead)) s.requests here)
    has_step (Write page cause true) there here = inl (had_map (of_dead actor) (λ x is. is) s.requests here)
    has_step (Write page cause false) there here = inl here
    has_step Die there here = inl (had_map (of_dead actor) (λ x is. is) s.requests here)
    has_step _ there here = inl here
