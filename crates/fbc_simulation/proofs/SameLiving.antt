-- A view means the same beside lists with the same open transactions.
use Rattle.std.proofs.Common.{◌≡◌, ◌∙◌, ◌==◌, ◌++◌, ℕ, zero, suc, Bool, List, [], ◌∷◌, Contains, find, map, refl, sym, ap}
use Rattle.std.specs.Prelude.{Option, Some, None, unwrap_or}
use Rattle.fbc_kinds.specs.declared.snapshots.Transaction.{Transaction}
use Rattle.fbc_kinds.specs.Chain.{chain}
use Rattle.fbc_kinds.specs.Meaning.{made_of, meaning_with, settled, transactions_up_to}
use Rattle.fbc_kinds.specs.View.{View, next_of}
use Rattle.fbc_kinds.proofs.Tests.{same_from_test}
use Rattle.fbc_version_edits.proofs.Finds.{found_in, none_passes}
use Rattle.fbc_numbers.proofs.CutFacts.{clash}

-- Each transaction of the one list is in the other, and those of the other differ in their numbers.
pub record HaveSameOnes (ts us : List Transaction) : Type 0 where
  pub there : (t : Transaction) → Contains ts t → Contains us t
  pub back : (t : Transaction) → Contains us t → Contains ts t
  pub one_number : (t u : Transaction) → Contains us t → Contains us u → t.number ≡ u.number → t ≡ u

module _ (ts us : List Transaction) (same : HaveSameOnes ts us) where
  same_found : (number : ℕ) → find (λ (t : Transaction). t.number == number) ts ≡ find (λ (t : Transaction). t.number == number) us
  same_found number = go (find has ts) refl (find has us) refl where
    has : Transaction → Bool
    has t = t.number == number

    go : (o : Option Transaction) → find has ts ≡ o → (p : Option Transaction) → find has us ≡ p → o ≡ p
    go None first None second = refl
    go None first (Some u) second =
        let found = found_in has us u second in
        absurd (clash (has u) found.1 (none_passes has ts u first (same.back u found.0)))
    go (Some t) first None second =
        let found = found_in has ts t first in
        absurd (clash (has t) found.1 (none_passes has us t second (same.there t found.0)))
    go (Some t) first (Some u) second =
        let found = found_in has ts t first in
        let also = found_in has us u second in
        ap Some (same.one_number t u (same.there t found.0) also.0 (same_from_test t.number number found.1 ∙ sym (same_from_test u.number number also.1)))

  module _ (view : View) where
    transactions_same : (count : ℕ) → transactions_up_to view ts count ≡ transactions_up_to view us count
    transactions_same zero = refl
    transactions_same (suc count) =
        let rest = transactions_same count in
        let here = ap (λ o. unwrap_or o (settled view (suc count))) (same_found (suc count)) in
        λ i. rest i ++ here i ∷ []

    pub same_meaning : meaning_with ts view ≡ meaning_with us view
    same_meaning = λ i. record { rows = λ relation row. map made_of (chain view relation row); transactions = transactions_same (next_of view) i }
