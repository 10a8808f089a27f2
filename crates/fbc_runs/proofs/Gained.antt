-- A living owner that begins is one more open transaction, and all else stays.
use Rattle.std.proofs.Common.{◌≡◌, ◌∙◌, ◌<◌, ◌++◌, ℕ, suc, Bool, true, false, List, [], ◌∷◌, length, refl, sym, ap, subst, arith, map, if◌then◌else◌}
use Rattle.std.specs.Prelude.{None, Contains, filter_map, is_some, slice_get}
use Rattle.std.specs.List.{cons_option}
use Rattle.std.specs.Option.{option_and_then}
use Rattle.std.proofs.lemmas.List.{length-map, map-append}
use Rattle.fbc_kinds.specs.declared.snapshots.Standing.{Standing}
use Rattle.fbc_kinds.specs.declared.snapshots.Standing.TheVariants as standing
use Rattle.fbc_kinds.specs.declared.snapshots.Transaction.{Transaction}
use Rattle.fbc_kinds.specs.Machine.{Machine, Made, after_begin, begun, is_held, is_committed, is_open, is_open_of, numbered, open_transaction}
use Rattle.fbc_runs.specs.Ended.{ended_by, is_owner_of, settled_by}
use Rattle.fbc_runs.specs.Orderly.{MakersAreThere}
use Rattle.fbc_runs.specs.Reading.{Gains}
use Rattle.fbc_runs.proofs.EndedOnes.{is_not_own, is_own, living_stays}
use Rattle.fbc_runs.proofs.LivingOnes.{living_open}
use Rattle.fbc_runs.proofs.Pushed.{before_last, committed_push, find_last, find_push, held_push}

open_not_committed : (u : Transaction) → is_open u.standing ≡ true → is_committed u.standing ≡ false
open_not_committed u opened = go u.standing opened
  where
    go : (s : Standing) → is_open s ≡ true → is_committed s ≡ false
    go standing.Open is = refl
    go standing.Committed is = cc
    go standing.RolledBack is = refl

-- Versions whose makers are there have the same ones in the longer list.
versions_stay : (ts : List Transaction) (u : Transaction) (rows : List Made) → ((v : Made) → Contains rows v → v.maker < length ts)
    → filter_map (λ (v : Made). option_and_then (numbered v.value) (slice_get (ts ++ u ∷ []) v.maker)) rows
    ≡ filter_map (λ (v : Made). option_and_then (numbered v.value) (slice_get ts v.maker)) rows
versions_stay ts u [] there = refl
versions_stay ts u (v ∷ rows) there =
    let rest = versions_stay ts u rows (λ w at. there w (suc at.0, omega (arith, at.1), at.2)) in
    let here = before_last ts u v.maker (there v (0, omega arith, refl)) in
    λ i. cons_option (option_and_then (numbered v.value) (here i)) (rest i)

-- One more open transaction of an owner that has none.
pub one_gained : (b : Machine) (who : ℕ) (u : Transaction) → open_transaction b who ≡ None → is_open u.standing ≡ true → u.owner ≡ who → MakersAreThere b
    → (let after : Machine = record b { transactions = b.transactions ++ u ∷ [] } in Gains b after who u)
one_gained b who u none opened owner there = record {
  none = none;
  found = find_last (is_open_of who) b.transactions u (is_own who u opened owner) none;
  others = λ other differ. find_push (is_open_of other) b.transactions u (is_not_own other u opened (λ same. differ (sym same ∙ owner)));
  committed = λ number. ap (λ (numbers : List ℕ). is_held numbers number) (committed_push b.transactions u (open_not_committed u opened));
  held = λ number all holds. held_push b.transactions u number (rw (opened, holds) refl) ∙ all;
  versions = λ relation row. versions_stay b.transactions u (b.rows relation row) (λ v at. there relation row v at);
}

module _ (living : List Transaction) (commits : ℕ → Bool) (m : Machine) (who number : ℕ) (none : open_transaction m who ≡ None) (lives : is_owner_of living who ≡ true) (there : MakersAreThere m) where
  abbrev b : Machine
  b = settled_by living commits m

  begins : after_begin m who number ≡ (record { rows = m.rows; transactions = m.transactions ++ begun m who number ∷ [] })
  begins = ap (λ o. if is_some o then m else (record { rows = m.rows; transactions = m.transactions ++ begun m who number ∷ [] })) none

  all : map (ended_by living commits) (m.transactions ++ begun m who number ∷ []) ≡ b.transactions ++ begun m who number ∷ []
  all =
      map-append (ended_by living commits) m.transactions (begun m who number ∷ [])
      ∙ ap (λ t. map (ended_by living commits) m.transactions ++ t ∷ []) (living_stays living commits (begun m who number) lives)

  still_there : MakersAreThere b
  still_there relation row v at = subst (λ n. v.maker < n) (sym (length-map m.transactions (ended_by living commits))) (there relation row v at)

  pub begun_gained : Gains (settled_by living commits m) (settled_by living commits (after_begin m who number)) who (begun m who number)
  begun_gained =
      subst (λ n. Gains b (settled_by living commits n) who (begun m who number)) (sym begins)
      (subst (λ ts. let after : Machine = record { rows = m.rows; transactions = ts } in Gains b after who (begun m who number)) (sym all)
      (one_gained b who (begun m who number) (living_open living commits who lives m ∙ none) refl refl still_there))
