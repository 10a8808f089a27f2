-- Where no circle is named, none leads through the owner; and a wait for a page closes none.
use Rattle.std.proofs.Common.{◌≡◌, ℕ, zero, suc, Bool, true, false, ◌&&◌, if◌then◌else◌, cond, List, [], ◌∷◌, ◌++◌, length, map, Option, Some, None, Ok, Err, is_some, refl, arith}
use Rattle.std.proofs.lemmas.Bool.Decides.{nat_tests}
use Rattle.std.proofs.lemmas.List.Folds.{find-append}
use Rattle.std.specs.List.{find}
use Rattle.std.specs.Option.{option_map_or}
use Rattle.fbc_levels.specs.declared.levels.Level.{Level}
use Rattle.fbc_levels.specs.declared.resources.Request.{Request}
use Rattle.fbc_levels.specs.declared.resources.Resource.{Resource}
use Rattle.fbc_levels.specs.declared.resources.Series.TheVariants.{Page}
use Rattle.fbc_levels.specs.LockState.{LockState, is_of, is_wait_of, wait_of}
use Rattle.fbc_levels.specs.Waits.{Leads, WaitsForNumber, is_for_number, is_wait_for, waits_for_number}
use Rattle.fbc_lock_table.specs.declared.answers.Asked.TheVariants.{Queued}
use Rattle.fbc_lock_table.specs.Effects.{after_ask, entered as with_entered, new_request, with_waiting}
use Rattle.fbc_lock_table.proofs.Ways.{own_wait}
use Rattle.fbc_owner_queues.specs.Circles.{circle_from, circle_of}
use Rattle.fbc_owner_queues.specs.Living.{has, living_owners}
use Rattle.fbc_owner_queues.specs.Search.{Outcome, leaving, searched, tried}
use Rattle.fbc_owner_queues.proofs.Lists.{length-leaving}
use Rattle.fbc_owner_queues.proofs.Through.{no_circle, none_outside}

module _ (s : LockState) (owner : ℕ) where
  -- The search for the circle.
  abbrev outcome : Outcome
  outcome = searched (waits_for_number s) (living_owners s) owner (length (living_owners s)) owner (leaving (living_owners s) owner)

  pub no_path : (others : List ℕ) → circle_from s owner ≡ None → Leads (WaitsForNumber s) owner others owner → ⊥
  no_path others none leads = go (has (living_owners s) owner) refl none where
    searching : (found : Outcome) → outcome ≡ found → has (living_owners s) owner ≡ true → circle_of owner found ≡ None → ⊥
    searching (Ok path) is there named = cc
    searching (Err after) is there named =
        no_circle s (living_owners s) owner (length (living_owners s)) (leaving (living_owners s) owner) after refl refl (omega (arith, length-leaving (living_owners s) owner there)) is others leads

    go : (lives : Bool) → has (living_owners s) owner ≡ lives → (if lives then circle_of owner outcome else None) ≡ None → ⊥
    go true there named = searching outcome refl there named
    go false outside named = none_outside s owner outside others leads

-- Where nobody is waited for the search ends at once.
tries-none : (waits : ℕ → Bool) → ((other : ℕ) → waits other ≡ false) → (goal : ℕ) (enter : ℕ → List ℕ → Outcome) (others free : List ℕ) → tried waits goal enter others free ≡ Err free
tries-none waits none goal enter [] free = refl
tries-none waits none goal enter (next ∷ others) free = rw (none next) (tries-none waits none goal enter others free)

finds-none : (waits : ℕ → ℕ → Bool) (owners : List ℕ) (goal depth owner : ℕ) (free : List ℕ) → ((other : ℕ) → waits owner other ≡ false) → circle_of goal (searched waits owners goal depth owner free) ≡ None
finds-none waits owners goal zero owner free none = refl
finds-none waits owners goal (suc depth) owner free none = rw (tries-none (waits owner) none goal (searched waits owners goal depth) owners free) refl

-- A wait for a page is one for no number.
page-waits : (s : LockState) (other : ℕ) (found : Option Request) → option_map_or is_for_number found false ≡ false → option_map_or (λ wait. is_for_number wait && is_wait_for s other wait) found false ≡ false
page-waits s other None page = refl
page-waits s other (Some wait) page = rw page refl

no_circle_for : (s : LockState) (owner : ℕ) → option_map_or is_for_number (wait_of s owner) false ≡ false → circle_from s owner ≡ None
no_circle_for s owner page = go (has (living_owners s) owner) where
  waits-none : (other : ℕ) → waits_for_number s owner other ≡ false
  waits-none other = page-waits s other (wait_of s owner) page

  go : (lives : Bool) → (if lives then circle_of owner (outcome s owner) else None) ≡ None
  go true = finds-none (waits_for_number s) (living_owners s) owner (length (living_owners s)) owner (leaving (living_owners s) owner) waits-none
  go false = refl

module _ (owner : ℕ) (resource : Resource) (level : Level) (page : resource.series ≡ Page) where
  -- Among requests of which none waits, the one that is made to wait is for the page.
  page-waited : (rs : List Request) → find (is_wait_of owner) rs ≡ None → option_map_or is_for_number (find (is_wait_of owner) (map (with_waiting owner resource level) rs)) false ≡ false
  page-waited [] none = refl
  page-waited (r ∷ rs) none = go (is_wait_of owner r) refl none (page-waited rs) where
    go : (waits : Bool) → is_wait_of owner r ≡ waits → cond waits (Some r) (find (is_wait_of owner) rs) ≡ None
        → (find (is_wait_of owner) rs ≡ None → option_map_or is_for_number (find (is_wait_of owner) (map (with_waiting owner resource level) rs)) false ≡ false)
        → option_map_or is_for_number (find (is_wait_of owner) (map (with_waiting owner resource level) (r ∷ rs))) false ≡ false
    go true is none' rest = absurd (cc)
    go false is none' rest = grind (arith, nat_tests, is, page, rest none')

  module _ (s : LockState) (word : ℕ) (free : wait_of s owner ≡ None) where
    entered-waits_not : (there : Bool) → find (is_wait_of owner) (if there then s.requests else s.requests ++ new_request owner resource word ∷ []) ≡ None
    entered-waits_not true = free
    entered-waits_not false = rw (find-append (is_wait_of owner) s.requests (new_request owner resource word ∷ [])) (grind (arith, free, own_wait owner resource word))

    -- Who waits for nothing and asks for a page closes no circle.
    pub page_asked-closes_none : circle_from (after_ask s owner resource level word Queued) owner ≡ None
    page_asked-closes_none =
        no_circle_for (after_ask s owner resource level word Queued) owner
        (page-waited (with_entered s.requests owner resource word) (entered-waits_not (is_some (find (is_of owner resource) s.requests))))
