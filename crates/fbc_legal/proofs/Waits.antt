-- Who waits for a page has no level on it yet, after each event.
use Rattle.std.proofs.Common.{◌≡◌, ℕ, Bool, true, false, not, ◌==◌, ◌&&◌, if◌then◌else◌, List, map, Some, None, is_some, refl, arith}
use Rattle.std.specs.List.{AllPairs, filter, find}
use Rattle.std.specs.Option.{option_or}
use Rattle.fbc_levels.specs.declared.levels.Level.{Level}
use Rattle.fbc_levels.specs.declared.levels.Level.TheVariants.{Free}
use Rattle.fbc_levels.specs.declared.resources.Request.{Request}
use Rattle.fbc_levels.specs.declared.resources.Resource.{Resource}
use Rattle.fbc_levels.specs.declared.resources.Series.{Series}
use Rattle.fbc_levels.specs.declared.resources.Series.TheVariants as series
use Rattle.fbc_levels.specs.Levels.{is_free, join}
use Rattle.fbc_levels.specs.Resources.{is_same_resource, page_resource}
use Rattle.fbc_levels.specs.LockState.{LockState, granted_of, is_of}
use Rattle.fbc_lock_table.specs.declared.answers.Asked.{Asked}
use Rattle.fbc_lock_table.specs.declared.answers.Asked.TheVariants.{Granted, Queued}
use Rattle.fbc_lock_table.specs.Answers.{answer_to_ask}
use Rattle.fbc_lock_table.specs.Effects.{after_ask, entered, is_bare_wait_of, new_request, of_dead, with_granted, with_waiting, without_wait, withdrawn}
use Rattle.fbc_lock_table.proofs.Ways.{same_resource}
use Rattle.fbc_owner_queues.specs.Circles.{circle_from}
use Rattle.fbc_world.specs.declared.events.Act.{Act}
use Rattle.fbc_world.specs.declared.events.Act.TheVariants.{Ask, Die, Grant, Lower, Opened, Reap, Withdraw, Write, Local}
use Rattle.fbc_world.specs.declared.events.LocalEvent.TheVariants as local
use Rattle.fbc_world.specs.Locks.{asked, lowered_to, unless_circle, with_grant}
use Rattle.fbc_world.specs.World.{acted}
use Rattle.fbc_world.proofs.Apart.{IsApart, apart_queued, once}
use Rattle.fbc_world.proofs.Requests.{is_key}
use Rattle.fbc_legal.specs.Coherent.{IsCoherent, WaitsAreBare, is_raise}
use Rattle.fbc_legal.specs.Guards.{Guard, GuardOfSeries}
use Rattle.fbc_legal.specs.Scene.{Scene}
use Rattle.fbc_legal.proofs.BareWaits.{IsBare, bare_filter, bare_map, bare_set, level_found}
use Rattle.fbc_legal.proofs.Exclusion.{AreRequestsTrue, both_of, is_plain, same_number}

module _ (at : Scene) (h : IsCoherent at.world) (t : AreRequestsTrue at.world) (owner : ℕ) (landed : Bool) where
  abbrev s : LockState
  s = at.world.locks

  module _ (other page : ℕ) where
    abbrev resource : Resource
    resource = page_resource page

    apart : AllPairs (λ x y. is_of other resource x ≡ true → is_of other resource y ≡ true → ⊥) s.requests
    apart = once other resource s.requests t.apart

    -- Who asks for a page has no request for it.
    none_found : (kind : Series) (key : ℕ) (level : Level) (word : ℕ) → GuardOfSeries at owner kind key level word → is_key owner (record { series = kind; key = key }) other resource ≡ true
        → find (is_of other resource) s.requests ≡ None
    none_found series.Page key level word g is =
        let keys = both_of (owner == other) (key == page) is in
        rw (← same_number owner other keys.0, ← same_number key page keys.1) g.fresh
    none_found _ key level word g is = absurd (grind (arith, is))

    queued : (r : Resource) (level : Level) (word : ℕ) → GuardOfSeries at owner r.series r.key level word → IsBare is_raise other resource (after_ask s owner r level word Queued).requests
    queued r level word g =
        bare_set is_raise other resource owner r word (with_waiting owner r level) (λ x. refl) (λ x not_it bare. grind (arith, not_it, bare)) s.requests own refl (h.bare other page) where
          own : is_key owner r other resource ≡ true → (x : Request) → is_of owner r x ≡ true → option_or (find (is_of other resource) s.requests) (Some (new_request owner r word)) ≡ Some x
              → is_raise x ≡ false → is_raise (with_waiting owner r level x) ≡ false
          own key x it is bare = grind (arith, is, none_found r.series r.key level word g key)

    -- A withdrawal takes waits away.
    withdraw : (o : ℕ) (rs : List Request) → AllPairs (λ x y. is_of other resource x ≡ true → is_of other resource y ≡ true → ⊥) rs → IsBare is_raise other resource rs
        → IsBare is_raise other resource (map (without_wait o) (filter (λ x. not (is_bare_wait_of o x)) rs))
    withdraw o rs only bare =
        bare_map is_raise other resource (without_wait o) (λ x. refl) (λ x is. grind (arith, is)) (filter (λ x. not (is_bare_wait_of o x)) rs) (bare_filter is_raise other resource (λ x. not (is_bare_wait_of o x)) rs only bare)

    unless : (a : LockState) → IsApart a → IsBare is_raise other resource a.requests → IsBare is_raise other resource (unless_circle a owner).requests
    unless a only bare = go (is_some (circle_from a owner)) where
      go : (b : Bool) → IsBare is_raise other resource (if b then withdrawn a owner else a).requests
      go true = withdraw owner a.requests (once other resource a.requests only) bare
      go false = bare

    ask : (r : Resource) (level : Level) (word : ℕ) (answer : Asked) → GuardOfSeries at owner r.series r.key level word → IsBare is_raise other resource (asked s owner r level word answer).requests
    ask r level word Granted g = queued r level word g
    ask r level word Queued g = unless (after_ask s owner r level word Queued) (apart_queued s owner r level word t.apart) (queued r level word g)
    ask r level word _ g = h.bare other page

    -- A level is lowered where there is one; who has one waits for nothing.
    set_lower : (r : Resource) (level : Level) → join (at.world.granted owner r) level ≡ at.world.granted owner r → IsBare is_raise other resource (map (with_granted owner r level) (entered s.requests owner r 0))
    set_lower r level part =
        bare_set is_raise other resource owner r 0 (with_granted owner r level) (λ x. refl) (λ x not_it bare. grind (arith, not_it, bare)) s.requests own refl (h.bare other page) where
          given : is_key owner r other resource ≡ true → join (granted_of s other resource) level ≡ granted_of s other resource
          given key =
              let keys = both_of (owner == other) (is_same_resource r resource) key in
              rw (t.agrees other resource, ← same_number owner other keys.0, ← same_resource r resource keys.1) part

          lower : (x : Request) (held : Level) → join held level ≡ held → held ≡ x.granted → is_raise x ≡ false → is_some x.waiting && not (is_free level) ≡ false
          lower x held gives is bare = grind (arith, gives, is, bare)

          own : is_key owner r other resource ≡ true → (x : Request) → is_of owner r x ≡ true → option_or (find (is_of other resource) s.requests) (Some (new_request owner r 0)) ≡ Some x
              → is_raise x ≡ false → is_raise (with_granted owner r level x) ≡ false
          own key x it is bare =
              let less = lower x (granted_of s other resource) (given key) (level_found (find (is_of other resource) s.requests) owner r 0 x is) bare in
              grind (arith, it, less)

    lowered : (r : Resource) (level : Level) → join (at.world.granted owner r) level ≡ at.world.granted owner r → IsBare is_raise other resource (lowered_to s owner r level).requests
    lowered r Free part = bare_filter is_raise other resource (λ x. not (is_of owner r x)) s.requests apart (h.bare other page)
    lowered r _ part = set_lower r _ part

  pub bare-acted : (act : Act) → Guard at owner act → is_plain act ≡ true → WaitsAreBare (acted at.shape at.world owner act landed)
  bare-acted (Opened locks) g plain = λ other page. refl
  bare-acted (Ask r level wait word) g plain = λ other page. ask other page r level word (answer_to_ask s owner r level wait) g.asked
  bare-acted (Grant r level) g plain = λ other page.
      bare_set is_raise other (page_resource page) owner r 0 (with_grant owner r level) (λ x. refl) (λ x not_it bare. grind (arith, not_it, bare)) s.requests (λ key x it is bare. grind (arith, it)) refl (h.bare other page)
  bare-acted Withdraw g plain = λ other page. withdraw other page owner s.requests (apart other page) (h.bare other page)
  bare-acted (Lower r level) g plain = λ other page. lowered other page r level g.part
  bare-acted (Reap dead by) g plain = λ other page. bare_filter is_raise other (page_resource page) (λ x. not (x.owner == dead)) s.requests (apart other page) (h.bare other page)
  bare-acted Die g plain = λ other page. bare_map is_raise other (page_resource page) (of_dead owner) (λ x. refl) (λ x is. is) s.requests (h.bare other page)
  bare-acted (Write page reason true) g plain = absurd cc
  bare-acted (Write page reason false) g plain = h.bare
  bare-acted (Local (local.Edit page edit)) g plain = h.bare
  bare-acted (Local (local.Before high low)) g plain = h.bare
  bare-acted (Local (local.Pin page)) g plain = h.bare
  bare-acted (Local (local.Unpin page)) g plain = h.bare
  bare-acted _ g plain = h.bare
