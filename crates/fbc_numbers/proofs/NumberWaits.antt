-- Who waits for a number below EX has no level on it yet, after each event.
use Rattle.std.proofs.Common.{◌≡◌, ◌∙◌, ℕ, Bool, true, false, not, ◌==◌, ◌&&◌, ◌⊎◌, inl, inr, if◌then◌else◌, List, [], ◌∷◌, map, Option, Some, None, is_some, refl, sym, arith}
use Rattle.std.specs.List.{AllPairs, filter, find}
use Rattle.std.specs.Option.{option_and_then, option_or}
use Rattle.fbc_kinds.specs.declared.shapes.Shape.{Shape}
use Rattle.fbc_kinds.specs.View.{View}
use Rattle.fbc_levels.specs.declared.levels.Level.{Level}
use Rattle.fbc_levels.specs.declared.levels.Level.TheVariants.{Ex, Free}
use Rattle.fbc_levels.specs.declared.resources.Request.{Request}
use Rattle.fbc_levels.specs.declared.resources.Resource.{Resource}
use Rattle.fbc_levels.specs.declared.resources.Series.{Series}
use Rattle.fbc_levels.specs.declared.resources.Series.TheVariants as series
use Rattle.fbc_levels.specs.Levels.{is_exclusive, is_free, join}
use Rattle.fbc_levels.specs.Resources.{is_same_resource}
use Rattle.fbc_levels.specs.LockState.{LockState, granted_of, is_of, request_of}
use Rattle.fbc_lock_table.specs.declared.answers.Asked.{Asked}
use Rattle.fbc_lock_table.specs.declared.answers.Asked.TheVariants.{Granted, Queued}
use Rattle.fbc_lock_table.specs.Answers.{answer_to_ask}
use Rattle.fbc_lock_table.specs.Effects.{after_ask, entered, is_bare_wait_of, new_request, of_dead, with_granted, with_waiting, without_wait, withdrawn}
use Rattle.fbc_lock_table.proofs.Ways.{same_resource}
use Rattle.fbc_owner_queues.specs.Circles.{circle_from}
use Rattle.fbc_world.specs.declared.events.Act.{Act}
use Rattle.fbc_world.specs.declared.events.Act.TheVariants.{Ask, Die, Grant, Lower, Opened, Reap, Withdraw, Write, Local}
use Rattle.fbc_world.specs.declared.events.LocalEvent.TheVariants as local
use Rattle.fbc_world.specs.History.{History}
use Rattle.fbc_world.specs.Locks.{asked, lowered_to, unless_circle, waiting_of, with_grant}
use Rattle.fbc_world.specs.World.{World, acted, world_of}
use Rattle.fbc_world.proofs.Apart.{IsApart, apart_queued, once}
use Rattle.fbc_world.proofs.Requests.{is_key, level_in}
use Rattle.fbc_legal.specs.Guards.{Guard, GuardOfSeries}
use Rattle.fbc_legal.specs.Legal.{IsLegal}
use Rattle.fbc_legal.specs.Scene.{Scene, number_resource, scene_of}
use Rattle.fbc_legal.proofs.BareWaits.{IsBare, bare_filter, bare_map, bare_set, is_found, level_found}
use Rattle.fbc_legal.proofs.Exclusion.{AreRequestsTrue, both_of, same_number}
use Rattle.fbc_legal.proofs.Induction.{requests_true}

-- The level waited for, if there is one, is below EX.
abbrev pub is_low : Option Level → Bool
is_low None = false
is_low (Some level) = not (is_exclusive level)

-- The request has a level, and waits for one below EX.
abbrev pub is_low_raise : Request → Bool
is_low_raise r = is_low r.waiting && not (is_free r.granted)

abbrev pub NumberWaitsAreBare : World → Type 0
NumberWaitsAreBare w = (owner number : ℕ) → is_found is_low_raise (request_of w.locks owner (number_resource number)) ≡ false

module _ (at : Scene) (bare : NumberWaitsAreBare at.world) (t : AreRequestsTrue at.world) (owner : ℕ) (landed : Bool) where
  abbrev s : LockState
  s = at.world.locks

  module _ (other number : ℕ) where
    abbrev resource : Resource
    resource = number_resource number

    apart : AllPairs (λ x y. is_of other resource x ≡ true → is_of other resource y ≡ true → ⊥) s.requests
    apart = once other resource s.requests t.apart

    -- Who asks for a number below EX has no request for it.
    none_found : (kind : Series) (key : ℕ) (level : Level) (word : ℕ) → GuardOfSeries at owner kind key level word → is_key owner (record { series = kind; key = key }) other resource ≡ true
        → (level ≡ Ex) ⊎ (find (is_of other resource) s.requests ≡ None)
    none_found series.Transaction key Ex word g is = inl refl
    none_found series.Transaction key _ word g is =
        let keys = both_of (owner == other) (key == number) is in
        inr (rw (← same_number owner other keys.0, ← same_number key number keys.1) g.fresh)
    none_found _ key level word g is = absurd (grind (arith, is))

    queued : (r : Resource) (level : Level) (word : ℕ) → GuardOfSeries at owner r.series r.key level word → IsBare is_low_raise other resource (after_ask s owner r level word Queued).requests
    queued r level word g =
        bare_set is_low_raise other resource owner r word (with_waiting owner r level) (λ x. refl) (λ x not_it was. grind (arith, not_it, was)) s.requests own refl (bare other number) where
          by : (x : Request) → is_of owner r x ≡ true → option_or (find (is_of other resource) s.requests) (Some (new_request owner r word)) ≡ Some x → (level ≡ Ex) ⊎ (find (is_of other resource) s.requests ≡ None)
              → is_low_raise (with_waiting owner r level x) ≡ false
          by x it is (inl ex) = grind (arith, it, ex)
          by x it is (inr none) = grind (arith, is, none)

          own : is_key owner r other resource ≡ true → (x : Request) → is_of owner r x ≡ true → option_or (find (is_of other resource) s.requests) (Some (new_request owner r word)) ≡ Some x
              → is_low_raise x ≡ false → is_low_raise (with_waiting owner r level x) ≡ false
          own key x it is was = by x it is (none_found r.series r.key level word g key)

    -- A withdrawal takes waits away.
    withdraw : (o : ℕ) (rs : List Request) → AllPairs (λ x y. is_of other resource x ≡ true → is_of other resource y ≡ true → ⊥) rs → IsBare is_low_raise other resource rs
        → IsBare is_low_raise other resource (map (without_wait o) (filter (λ x. not (is_bare_wait_of o x)) rs))
    withdraw o rs only was =
        bare_map is_low_raise other resource (without_wait o) (λ x. refl) (λ x is. grind (arith, is)) (filter (λ x. not (is_bare_wait_of o x)) rs) (bare_filter is_low_raise other resource (λ x. not (is_bare_wait_of o x)) rs only was)

    unless : (a : LockState) → IsApart a → IsBare is_low_raise other resource a.requests → IsBare is_low_raise other resource (unless_circle a owner).requests
    unless a only was = go (is_some (circle_from a owner)) where
      go : (b : Bool) → IsBare is_low_raise other resource (if b then withdrawn a owner else a).requests
      go true = withdraw owner a.requests (once other resource a.requests only) was
      go false = was

    ask : (r : Resource) (level : Level) (word : ℕ) (answer : Asked) → GuardOfSeries at owner r.series r.key level word → IsBare is_low_raise other resource (asked s owner r level word answer).requests
    ask r level word Granted g = queued r level word g
    ask r level word Queued g = unless (after_ask s owner r level word Queued) (apart_queued s owner r level word t.apart) (queued r level word g)
    ask r level word _ g = bare other number

    -- A level is lowered where there is one.
    set_lower : (r : Resource) (level : Level) → join (at.world.granted owner r) level ≡ at.world.granted owner r → IsBare is_low_raise other resource (map (with_granted owner r level) (entered s.requests owner r 0))
    set_lower r level part =
        bare_set is_low_raise other resource owner r 0 (with_granted owner r level) (λ x. refl) (λ x not_it was. grind (arith, not_it, was)) s.requests own refl (bare other number) where
          given : is_key owner r other resource ≡ true → join (granted_of s other resource) level ≡ granted_of s other resource
          given key =
              let keys = both_of (owner == other) (is_same_resource r resource) key in
              rw (t.agrees other resource, ← same_number owner other keys.0, ← same_resource r resource keys.1) part

          lower : (x : Request) (held : Level) → join held level ≡ held → held ≡ x.granted → is_low_raise x ≡ false → is_low x.waiting && not (is_free level) ≡ false
          lower x held gives is was = grind (arith, gives, is, was)

          own : is_key owner r other resource ≡ true → (x : Request) → is_of owner r x ≡ true → option_or (find (is_of other resource) s.requests) (Some (new_request owner r 0)) ≡ Some x
              → is_low_raise x ≡ false → is_low_raise (with_granted owner r level x) ≡ false
          own key x it is was =
              let less = lower x (granted_of s other resource) (given key) (level_found (find (is_of other resource) s.requests) owner r 0 x is) was in
              grind (arith, it, less)

    lowered : (r : Resource) (level : Level) → join (at.world.granted owner r) level ≡ at.world.granted owner r → IsBare is_low_raise other resource (lowered_to s owner r level).requests
    lowered r Free part = bare_filter is_low_raise other resource (λ x. not (is_of owner r x)) s.requests apart (bare other number)
    lowered r _ part = set_lower r _ part

    dies : IsBare is_low_raise other resource (map (of_dead owner) s.requests)
    dies = bare_map is_low_raise other resource (of_dead owner) (λ x. refl) (λ x is. is) s.requests (bare other number)

  bare-acted : (act : Act) → Guard at owner act → NumberWaitsAreBare (acted at.shape at.world owner act landed)
  bare-acted (Opened locks) g = λ other number. refl
  bare-acted (Ask r level wait word) g = λ other number. ask other number r level word (answer_to_ask s owner r level wait) g.asked
  bare-acted (Grant r level) g = λ other number.
      bare_set is_low_raise other (number_resource number) owner r 0 (with_grant owner r level) (λ x. refl) (λ x not_it was. grind (arith, not_it, was)) s.requests (λ key x it is was. grind (arith, it)) refl (bare other number)
  bare-acted Withdraw g = λ other number. withdraw other number owner s.requests (apart other number) (bare other number)
  bare-acted (Lower r level) g = λ other number. lowered other number r level g.part
  bare-acted (Reap dead by) g = λ other number. bare_filter is_low_raise other (number_resource number) (λ x. not (x.owner == dead)) s.requests (apart other number) (bare other number)
  bare-acted Die g = dies
  bare-acted (Write page reason true) g = dies
  bare-acted (Write page reason false) g = bare
  bare-acted (Local (local.Edit page edit)) g = bare
  bare-acted (Local (local.Before high low)) g = bare
  bare-acted (Local (local.Pin page)) g = bare
  bare-acted (Local (local.Unpin page)) g = bare
  bare-acted _ g = bare

pub number_waits_bare : (shape : Shape) (file : View) (history : History) → IsLegal shape file history → NumberWaitsAreBare (world_of shape file history)
number_waits_bare shape file [] legal = λ owner number. refl
number_waits_bare shape file (moment ∷ before) legal =
    bare-acted (scene_of shape file before) (number_waits_bare shape file before legal.0) (requests_true shape file before) moment.event.actor moment.landed moment.event.act legal.1.guard

-- Who waits for a number below EX has no level on it.
pub waits_bare-number : (w : World) → NumberWaitsAreBare w → AreRequestsTrue w → (owner number : ℕ) (level : Level) → waiting_of w.locks owner (number_resource number) ≡ Some level → is_exclusive level ≡ false
    → w.granted owner (number_resource number) ≡ Free
waits_bare-number w bare t owner number level waits low = sym (t.agrees owner (number_resource number)) ∙ go (request_of w.locks owner (number_resource number)) waits (bare owner number) where
  go : (found : Option Request) → option_and_then (λ (r : Request). r.waiting) found ≡ Some level → is_found is_low_raise found ≡ false → level_in found ≡ Free
  go None is was = refl
  go (Some r) is was = grind (arith, is, was, low)
