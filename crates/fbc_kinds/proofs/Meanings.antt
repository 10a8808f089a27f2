-- What stands in the rows of a view's meaning: the versions of its chains whose transactions are not rolled back.
use Rattle.std.proofs.Common.{◌≡◌, ◌≤◌, ◌<◌, ◌-◌, ◌++◌, ◌∙◌, ℕ, zero, suc, Bool, true, false, not, List, [], ◌∷◌, length, refl, sym, ap, arith, map}
use Rattle.std.specs.Prelude.{Some, None, find, filter, filter_map, nat_lt, All, slice_get, unwrap_or, ◌==◌, if◌then◌else◌}
use Rattle.std.specs.Option.{option_and_then}
use Rattle.std.specs.List.{cons_option}
use Rattle.std.proofs.lemmas.Bool.Decides.{nat_tests}
use Rattle.std.proofs.lemmas.Grind.{common_steps}
use Rattle.fbc_kinds.specs.declared.snapshots.Transaction.{Transaction}
use Rattle.fbc_kinds.specs.View.{View, next_of}
use Rattle.fbc_kinds.specs.Chain.{Version, chain}
use Rattle.fbc_kinds.specs.Machine.{Made, numbered, is_rolled_back, standing_versions}
use Rattle.fbc_kinds.specs.Meaning.{settled, transaction_of, transactions_up_to, made_of, meaning_with}

-- An element at the end of a list stands behind the others.
before_last : {X : Type 0} (xs : List X) (x : X) (k : ℕ) → k < length xs → slice_get (xs ++ x ∷ []) k ≡ slice_get xs k
before_last [] x k lt = absurd (omega arith)
before_last (y ∷ ys) x zero lt = refl
before_last (y ∷ ys) x (suc k) lt = before_last ys x k (omega arith)

at_last : {X : Type 0} (xs : List X) (x : X) → slice_get (xs ++ x ∷ []) (length xs) ≡ Some x
at_last [] x = refl
at_last (y ∷ ys) x = at_last ys x

module _ (view : View) (living : List Transaction) where
  found : (number : ℕ) (ts : List Transaction) → (unwrap_or (find (λ (t : Transaction). t.number == number) ts) (settled view number)).number ≡ number
  found number [] = refl
  found number (t ∷ ts) = grind (arith, nat_tests, found number ts)

  -- The transaction of a number has that number.
  pub number_of-transaction_of : (number : ℕ) → (transaction_of view living number).number ≡ number
  number_of-transaction_of number = found number living

  length-transactions_up_to : (count : ℕ) → length (transactions_up_to view living count) ≡ count
  length-transactions_up_to zero = refl
  length-transactions_up_to (suc count) = grind (arith, common_steps, length-transactions_up_to count)

  placed : (count place : ℕ) → place < suc count → (place < count → slice_get (transactions_up_to view living count) place ≡ Some (transaction_of view living (suc place))) → (b : Bool) → nat_lt place count ≡ b → slice_get (transactions_up_to view living count ++ transaction_of view living (suc count) ∷ []) place ≡ Some (transaction_of view living (suc place))
  placed count place lt earlier true is =
      let before : place < count = grind (arith, nat_tests) in
      let within : place < length (transactions_up_to view living count) = rw length-transactions_up_to before in
      before_last (transactions_up_to view living count) (transaction_of view living (suc count)) place within ∙ earlier before
  placed count place lt earlier false is =
      let here : place ≡ length (transactions_up_to view living count) = rw length-transactions_up_to (grind (arith, nat_tests)) in
      let same : place ≡ count = grind (arith, nat_tests) in
      ap (slice_get (transactions_up_to view living count ++ transaction_of view living (suc count) ∷ [])) here ∙ at_last (transactions_up_to view living count) (transaction_of view living (suc count)) ∙ ap (λ n. Some (transaction_of view living (suc n))) (sym same)

  -- A number's transaction stands at the place before that number.
  pub transaction_at : (count place : ℕ) → place < count → slice_get (transactions_up_to view living count) place ≡ Some (transaction_of view living (suc place))
  transaction_at zero place lt = absurd (omega arith)
  transaction_at (suc count) place lt = placed count place lt (transaction_at count place) (nat_lt place count) refl

  -- Whether a version's transaction is not rolled back.
  abbrev pub is_standing : Version → Bool
  is_standing version = not (is_rolled_back (transaction_of view living version.number).standing)

  stands_at : (number : ℕ) → 0 < number → number ≤ next_of view → slice_get (transactions_up_to view living (next_of view)) (number - 1) ≡ Some (transaction_of view living number)
  stands_at number above within =
      let back : suc (number - 1) ≡ number = omega arith in
      transaction_at (next_of view) (number - 1) (omega arith) ∙ ap (λ n. Some (transaction_of view living n)) back

  as_version : (version : Version) (t : Transaction) (b : Bool) → t.number ≡ version.number → is_rolled_back t.standing ≡ b → numbered version.value t ≡ (if not b then Some version else None)
  as_version version t true same is = rw is refl
  as_version version t false same is = rw is (ap (λ n. let v : Version = record { number = n; value = version.value } in Some v) same)

  one_stands : (version : Version) → 0 < version.number → version.number ≤ next_of view → option_and_then (numbered version.value) (slice_get (transactions_up_to view living (next_of view)) (version.number - 1)) ≡ (if is_standing version then Some version else None)
  one_stands version above within =
      ap (option_and_then (numbered version.value)) (stands_at version.number above within)
      ∙ as_version version (transaction_of view living version.number) (is_rolled_back (transaction_of view living version.number).standing) (number_of-transaction_of version.number) refl

  in_front : (version : Version) (b : Bool) (older : List Version) → cons_option (if b then Some version else None) older ≡ (if b then version ∷ older else older)
  in_front version true older = refl
  in_front version false older = refl

  -- The versions whose transactions are not rolled back.
  standing_made : (versions : List Version) → All (λ (v : Version). (0 < v.number) × (v.number ≤ next_of view)) versions → filter_map (λ (v : Made). option_and_then (numbered v.value) (slice_get (transactions_up_to view living (next_of view)) v.maker)) (map made_of versions) ≡ filter is_standing versions
  standing_made [] all = refl
  standing_made (version ∷ older) all =
      let first : (0 < version.number) × (version.number ≤ next_of view) = all 0 version (grind (arith, common_steps)) in
      ap (λ o. cons_option o (filter_map (λ (v : Made). option_and_then (numbered v.value) (slice_get (transactions_up_to view living (next_of view)) v.maker)) (map made_of older))) (one_stands version first.0 first.1)
      ∙ in_front version (is_standing version) (filter_map (λ (v : Made). option_and_then (numbered v.value) (slice_get (transactions_up_to view living (next_of view)) v.maker)) (map made_of older))
      ∙ ap (λ rest. if is_standing version then version ∷ rest else rest) (standing_made older (λ k d lt. all (suc k) d (grind (arith, common_steps))))

  -- Where a row's numbers are the view's, its standing versions in the meaning are those of its chain that are not rolled back.
  pub standing_versions-meaning_with : (relation row : ℕ) → All (λ (v : Version). (0 < v.number) × (v.number ≤ next_of view)) (chain view relation row) → standing_versions (meaning_with living view) relation row ≡ filter is_standing (chain view relation row)
  standing_versions-meaning_with relation row all = standing_made (chain view relation row) all
