-- A change of a row may come to a machine where it may come to one that reads as it.
use Rattle.std.proofs.Common.{◌≡◌, ◌∙◌, ℕ, Bool, true, false, not, ◌||◌, List, [], ◌∷◌, refl, sym, ap}
use Rattle.std.proofs.lemmas.Bool.{or_left, or_right}
use Rattle.std.specs.Prelude.{Option, Some, None, is_none}
use Rattle.std.specs.Option.{option_and_then}
use Rattle.fbc_kinds.specs.declared.snapshots.Transaction.{Transaction}
use Rattle.fbc_kinds.specs.Chain.{Version}
use Rattle.fbc_kinds.specs.Machine.{Machine, is_free_row, is_held_by_open, is_open_of_other, is_settled_row, may_change, newest, open_transaction, seen, seen_by, standing_versions}
use Rattle.fbc_kinds.proofs.Heads.{both_pass}
use Rattle.fbc_runs.specs.Orderly.{OwnersDiffer}
use Rattle.fbc_runs.specs.Reading.{IsNewestOrLacks, ReadsAs}
use Rattle.fbc_runs.proofs.Opens.{held_by_others, open_of_others}

free_deletion : (us : List Transaction) (version : Version) → version.value ≡ None → is_held_by_open us version.number ≡ true → is_free_row us (Some version) ≡ true
free_deletion us version deletion held = rw (deletion, held) refl

none_is : {X : Type 0} (o : Option X) → is_none o ≡ true → o ≡ None
none_is None is = refl
none_is (Some x) is = cc

kept_failing : (x y : Bool) → (y ≡ true → x ≡ true) → not x ≡ true → not y ≡ true
kept_failing x false back is = refl
kept_failing true true back is = cc
kept_failing false true back is = let both = back refl in cc

module _ (a b : Machine) (reads : ReadsAs a b) (differ : OwnersDiffer b.transactions) where
  free_too : (p q : Option Version) → IsNewestOrLacks b.transactions p q → is_free_row a.transactions p ≡ true → is_free_row b.transactions q ≡ true
  free_too None None lacks free = refl
  free_too None (Some version) lacks free = free_deletion b.transactions version lacks.deletion lacks.held
  free_too (Some version) q lacks free =
      let both = both_pass (is_none version.value) (is_held_by_open a.transactions version.number) free in
      ap (is_free_row b.transactions) lacks
      ∙ free_deletion b.transactions version (none_is version.value both.0) (held_by_others a.transactions b.transactions reads.means.same_open differ version.number both.1)

  pub insertion_comes : (relation row : ℕ) → is_free_row a.transactions (newest (standing_versions a relation row)) ≡ true → is_free_row b.transactions (newest (standing_versions b relation row)) ≡ true
  insertion_comes relation row = free_too (newest (standing_versions a relation row)) (newest (standing_versions b relation row)) (reads.lacks relation row)

  settled_too : (who : ℕ) (version : Version) (q : Option Version) → q ≡ Some version → is_settled_row a.transactions who (Some version) ≡ true → is_settled_row b.transactions who q ≡ true
  settled_too who version q same settled =
      ap (is_settled_row b.transactions who) same
      ∙ kept_failing (is_open_of_other a.transactions who version.number) (is_open_of_other b.transactions who version.number)
      (open_of_others a.transactions b.transactions reads.means.same_open differ who version.number) settled

  -- Where there is no version nothing is seen.
  none_seen : (who relation row : ℕ) → standing_versions a relation row ≡ [] → is_none (seen_by a who relation row) ≡ true
  none_seen who relation row none = go (open_transaction a who)
    where
      go : (o : Option Transaction) → is_none (option_and_then (seen a relation row) o) ≡ true
      go None = refl
      go (Some t) = rw none refl

  module _ (who relation row : ℕ) where
    unseen_too : is_none (seen_by a who relation row) ≡ true → may_change b who relation row ≡ true
    unseen_too none = or_left (is_none (seen_by b who relation row)) (is_settled_row b.transactions who (newest (standing_versions b relation row))) (ap is_none (sym (reads.means.seen who relation row)) ∙ none)

    pub change_comes : may_change a who relation row ≡ true → may_change b who relation row ≡ true
    change_comes may = go (standing_versions a relation row) refl (is_none (seen_by a who relation row)) refl may (reads.lacks relation row)
      where
        go : (versions : List Version) → standing_versions a relation row ≡ versions → (none : Bool) → is_none (seen_by a who relation row) ≡ none → (none || is_settled_row a.transactions who (newest versions)) ≡ true
            → IsNewestOrLacks b.transactions (newest versions) (newest (standing_versions b relation row)) → may_change b who relation row ≡ true
        go versions is true none settled lacks = unseen_too none
        go [] is false none settled lacks = unseen_too (none_seen who relation row is)
        go (version ∷ older) is false none settled lacks =
            or_right (is_none (seen_by b who relation row)) (is_settled_row b.transactions who (newest (standing_versions b relation row)))
            (settled_too who version (newest (standing_versions b relation row)) lacks settled)
