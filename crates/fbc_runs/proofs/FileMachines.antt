-- What a file means is orderly: it has no open transaction, and the number of each place is one more than the place.
use Rattle.std.proofs.Common.{◌≡◌, ◌∙◌, ◌<◌, ◌≤◌, ℕ, zero, suc, Bool, true, false, [], length, map, refl, sym, ap, subst, arith, if◌then◌else◌}
use Rattle.std.specs.Prelude.{Some, Contains, All, slice_get}
use Rattle.std.proofs.lemmas.Grind.{common_steps}
use Rattle.std.proofs.lemmas.List.Elements.{All-map}
use Rattle.std.proofs.lemmas.Option.{same_Some, slice_get_within}
use Rattle.fbc_kinds.specs.declared.snapshots.Standing.TheVariants as standing
use Rattle.fbc_kinds.specs.declared.snapshots.Transaction.{Transaction}
use Rattle.fbc_kinds.specs.Chain.{Version, chain, state_of}
use Rattle.fbc_kinds.specs.Machine.{Made, is_open}
use Rattle.fbc_kinds.specs.Meaning.{made_of, meaning_of, settled, transactions_up_to}
use Rattle.fbc_kinds.specs.View.{View, is_committed_state, next_of}
use Rattle.fbc_kinds.proofs.Meanings.{transaction_at}
use Rattle.fbc_runs.specs.Orderly.{IsOpenAt, IsOrderly}

module _ (view : View) where
  counted : (count : ℕ) → length (transactions_up_to view [] count) ≡ count
  counted zero = refl
  counted (suc count) = grind (arith, common_steps, counted count)

  -- A place has the settled transaction of the next number.
  settled_at : (place : ℕ) (t : Transaction) → slice_get (transactions_up_to view [] (next_of view)) place ≡ Some t → settled view (suc place) ≡ t
  settled_at place t at =
      let within : place < next_of view = subst (λ n. place < n) (counted (next_of view)) (slice_get_within (transactions_up_to view [] (next_of view)) place t at) in
      same_Some (settled view (suc place)) t (sym (transaction_at view [] (next_of view) place within) ∙ at)

  not_open : (b : Bool) → is_open (if b then standing.Committed else standing.RolledBack) ≡ false
  not_open true = refl
  not_open false = refl

  none_is_open : (place : ℕ) (t : Transaction) → IsOpenAt (transactions_up_to view [] (next_of view)) place t → ⊥
  none_is_open place t opens =
      let closed : is_open t.standing ≡ false = ap (λ (u : Transaction). is_open u.standing) (sym (settled_at place t opens.0)) ∙ not_open (is_committed_state (state_of view (suc place))) in
      let opened = opens.1 in
      cc

  pub file_orderly : ((relation row : ℕ) → All (λ (v : Version). (0 < v.number) × (v.number ≤ next_of view)) (chain view relation row)) → IsOrderly (meaning_of view)
  file_orderly begun = record {
    numbers = λ place other t u stands also same.
        let one : suc place ≡ t.number = ap (λ (x : Transaction). x.number) (settled_at place t stands.0) in
        let two : suc other ≡ u.number = ap (λ (x : Transaction). x.number) (settled_at other u also.0) in
        omega (arith, one, two, same);
    owners = λ place other t u opens also same. absurd (none_is_open place t opens);
    snapshots = λ place t opens. absurd (none_is_open place t opens);
    makers = λ relation row v within. there relation row v within;
    front = λ relation row newer older v w t u whole opens within stands. absurd (none_is_open w.maker t opens);
  }
    where
      there : (relation row : ℕ) (v : Made) → Contains (map made_of (chain view relation row)) v → v.maker < length (transactions_up_to view [] (next_of view))
      there relation row v within =
          let all : All (λ (m : Made). m.maker < next_of view) (map made_of (chain view relation row)) =
          All-map (λ (m : Made). m.maker < next_of view) made_of (chain view relation row) (λ k d lt. let both = begun relation row k d lt in omega (arith, both.0, both.1)) in
          let at : v.maker < next_of view = subst (λ (m : Made). m.maker < next_of view) within.2 (all within.0 v within.1) in
          subst (λ n. v.maker < n) (sym (counted (next_of view))) at
