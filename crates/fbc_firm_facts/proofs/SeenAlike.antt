-- Who goes on sees the same of each row where the others are at their ends.
use Rattle.std.proofs.Common.{◌≡◌, ◌∙◌, ◌⊎◌, inl, inr, ℕ, zero, suc, Bool, true, false, List, [], ◌∷◌, map, find, if◌then◌else◌, refl, sym, ap, subst}
use Rattle.std.specs.Prelude.{Option, Some, None, filter_map, slice_get}
use Rattle.std.specs.List.{cons_option}
use Rattle.std.specs.Option.{option_and_then}
use Rattle.std.proofs.lemmas.Bool.{false_from_ne_true}
use Rattle.std.proofs.lemmas.Option.{same_Some}
use Rattle.fbc_kinds.specs.declared.snapshots.Transaction.{Transaction}
use Rattle.fbc_kinds.specs.Chain.{Version}
use Rattle.fbc_kinds.specs.Machine.{Machine, Made, committed_numbers, is_committed, is_held, is_open, numbered, open_transaction, seen, seen_by}
use Rattle.fbc_numbers.proofs.CutFacts.{clash}
use Rattle.fbc_runs.specs.Ended.{end_by, ended_by, is_owner_of, settled_by}
use Rattle.fbc_runs.specs.Orderly.{IsOrderly}
use Rattle.fbc_runs.proofs.CommittedNumbers.{committed_at}
use Rattle.fbc_runs.proofs.EndedOnes.{Stands, closed, closed_stays, living_one, living_stays, other_ends, other_one, own, stands}
use Rattle.fbc_runs.proofs.LivingOnes.{living_open}
use Rattle.fbc_runs.proofs.Opens.{IsOpenOf, open_one}
use Rattle.fbc_runs.proofs.Places.{map_at}
use Rattle.fbc_runs.proofs.Standings.{committed_stands, open_not_committed, open_stands}

-- A version stays, or it goes and was not held.
pub data Fate (held : ℕ → Bool) (before after : Option Version) : Type 0 where
  stays : before ≡ after → Fate held before after
  goes : (version : Version) → before ≡ Some version → held version.number ≡ false → after ≡ None → Fate held before after

module _ (held : ℕ → Bool) where
  abbrev first_held : List Version → Option Version
  first_held versions = find (λ (version : Version). held version.number) versions

  same_step : (o : Option Version) (xs ys : List Version) → first_held xs ≡ first_held ys → first_held (cons_option o xs) ≡ first_held (cons_option o ys)
  same_step None xs ys rest = rest
  same_step (Some version) xs ys rest = ap (λ found. if held version.number then Some version else found) rest

  step : (o p : Option Version) (xs ys : List Version) → Fate held o p → first_held xs ≡ first_held ys → first_held (cons_option o xs) ≡ first_held (cons_option p ys)
  step o p xs ys (stays same) rest = subst (λ q. first_held (cons_option o xs) ≡ first_held (cons_option q ys)) same (same_step o xs ys rest)
  step o p xs ys (goes version was unheld none) rest = rw (was, none, unheld) rest

  -- So what is seen of a row is the same.
  pub see-fates : (f g : Made → Option Version) → ((v : Made) → Fate held (f v) (g v)) → (rows : List Made) → first_held (filter_map f rows) ≡ first_held (filter_map g rows)
  see-fates f g fate [] = refl
  see-fates f g fate (v ∷ rows) = step (f v) (g v) (filter_map f rows) (filter_map g rows) (fate v) (see-fates f g fate rows)

none_at : (f : Transaction → Transaction) (ts : List Transaction) (place : ℕ) → slice_get ts place ≡ None → slice_get (map f ts) place ≡ None
none_at f [] place none = refl
none_at f (t ∷ ts) zero none = absurd cc
none_at f (t ∷ ts) (suc place) none = none_at f ts place none

module _ (living : List Transaction) (commits : ℕ → Bool) (machine : Machine) (who : ℕ) (orderly : IsOrderly machine) (lives : is_owner_of living who ≡ true) where
  abbrev ts : List Transaction
  ts = machine.transactions

  abbrev end : Transaction → Transaction
  end = ended_by living commits

  module _ (t : Transaction) (found : open_transaction machine who ≡ Some t) where
    one : IsOpenOf ts who t
    one = open_one ts who t found

    abbrev held : ℕ → Bool
    held = is_held t.snapshot

    -- The number of an open transaction that ends is not held.
    not_held : (place : ℕ) (u : Transaction) → slice_get ts place ≡ Some u → is_open u.standing ≡ true → is_owner_of living u.owner ≡ false → held u.number ≡ false
    not_held place u at opened ends = false_from_ne_true (held u.number) (λ its. by ((orderly.snapshots one.place t (one.at, one.opened)).1 u.number its)) where
      own_one : u ≡ t → ⊥
      own_one same = clash (is_owner_of living u.owner) (ap (λ (x : Transaction). is_owner_of living x.owner) same ∙ ap (is_owner_of living) one.owner ∙ lives) ends

      by : (u.number ≡ t.number) ⊎ (is_held (committed_numbers ts) u.number ≡ true) → ⊥
      by (inl same) =
          let place_is : place ≡ one.place = orderly.numbers place one.place u t (at, open_stands u.standing opened) (one.at, open_stands t.standing one.opened) same in
          own_one (same_Some u t (sym at ∙ ap (slice_get ts) place_is ∙ one.at))
      by (inr committed) =
          let c = committed_at ts u.number committed in
          let place_is : c.place ≡ place = orderly.numbers c.place place c.maker u (c.at, committed_stands c.maker.standing c.committed) (at, open_stands u.standing opened) c.same in
          let same : c.maker ≡ u = same_Some c.maker u (sym c.at ∙ ap (slice_get ts) place_is ∙ at) in
          clash (is_committed u.standing) (ap (λ (x : Transaction). is_committed x.standing) (sym same) ∙ c.committed) (open_not_committed u.standing opened)

    made_fate : (value : Option (List ℕ)) (place : ℕ) (u : Transaction) → slice_get ts place ≡ Some u → Fate held (numbered value u) (numbered value (end u))
    made_fate value place u at = by (stands living who u) where
      same : end u ≡ u → Fate held (numbered value u) (numbered value (end u))
      same is = stays (sym (ap (numbered value) is))

      ended : (b : Bool) → is_open u.standing ≡ true → is_owner_of living u.owner ≡ false → Fate held (numbered value u) (numbered value (record u { standing = end_by b }))
      ended true opened ends = stays (rw (open_stands u.standing opened) refl)
      ended false opened ends = goes (record { number = u.number; value = value }) (rw (open_stands u.standing opened) refl) (not_held place u at opened ends) refl

      by : Stands living who u → Fate held (numbered value u) (numbered value (end u))
      by (closed is) = same (closed_stays living commits u is)
      by (own is its) = same (living_stays living commits u (ap (is_owner_of living) its ∙ lives))
      by (living_one is differ also) = same (living_stays living commits u also)
      by (other_one is differ ends) = subst (λ (x : Transaction). Fate held (numbered value u) (numbered value x)) (sym (other_ends living commits u is ends)) (ended (commits u.owner) is ends)

    fate : (v : Made) → Fate held (option_and_then (numbered v.value) (slice_get ts v.maker)) (option_and_then (numbered v.value) (slice_get (map end ts) v.maker))
    fate v = go (slice_get ts v.maker) refl where
      go : (o : Option Transaction) → slice_get ts v.maker ≡ o → Fate held (option_and_then (numbered v.value) o) (option_and_then (numbered v.value) (slice_get (map end ts) v.maker))
      go None none = stays (rw (none_at end ts v.maker none) refl)
      go (Some u) at = rw (map_at end ts v.maker u at) (made_fate v.value v.maker u at)

    seen-same : (relation row : ℕ) → seen (settled_by living commits machine) relation row t ≡ seen machine relation row t
    seen-same relation row =
        ap (λ found. option_and_then (λ (version : Version). version.value) found)
        (sym (see-fates held (λ v. option_and_then (numbered v.value) (slice_get ts v.maker)) (λ v. option_and_then (numbered v.value) (slice_get (map end ts) v.maker)) fate (machine.rows relation row)))

  pub seen-alike : (relation row : ℕ) → seen_by (settled_by living commits machine) who relation row ≡ seen_by machine who relation row
  seen-alike relation row = ap (option_and_then (seen (settled_by living commits machine) relation row)) (living_open living commits who lives machine) ∙ go (open_transaction machine who) refl where
    go : (o : Option Transaction) → open_transaction machine who ≡ o → option_and_then (seen (settled_by living commits machine) relation row) o ≡ option_and_then (seen machine relation row) o
    go None none = refl
    go (Some t) found = seen-same t found relation row
