-- A level goes beside all that is wanted where it goes beside what each request wants.
use Rattle.std.proofs.Common.{◌≡◌, ℕ, zero, suc, ◌+◌, Bool, true, false, ◌&&◌, List, [], ◌∷◌, take, Option, Some, None, slice_get, add-one, refl, sym, ◌∙◌}
use Rattle.std.specs.List.{list_all, filter_map, cons_option}
use Rattle.std.specs.Option.{option_map_or}
use Rattle.std.proofs.lemmas.Bool.{and_right, and_from, and_parts}

module _ {X Y : Type 0} (p : Y → Bool) (h : X → Option Y) where
  -- The first of more requests.
  first : (o : Option Y) (ys : List Y) → list_all p (cons_option o ys) ≡ (option_map_or p o true && list_all p ys)
  first None ys = refl
  first (Some y) ys = refl

  all_next : (xs : List X) (k : ℕ) (x : X) → list_all p (filter_map h (take k xs)) ≡ true → slice_get xs k ≡ Some x → option_map_or p (h x) true ≡ true → list_all p (filter_map h (take (suc k) xs)) ≡ true
  all_next [] k x all at passes = absurd (cc)
  all_next (y ∷ xs) zero x all at passes =
      let same : y ≡ x = cc in
      rw same (first (h x) [] ∙ and_from _ _ passes refl)
  all_next (y ∷ xs) (suc k) x all at passes =
      let parts = sym (first (h y) (filter_map h (take k xs))) ∙ all in
      first (h y) (filter_map h (take (suc k) xs)) ∙ and_from _ _ (and_parts _ _ parts).0 (all_next xs k x (and_parts _ _ parts).1 at passes)

  pub all_more : (xs : List X) (k : ℕ) (x : X) → list_all p (filter_map h (take k xs)) ≡ true → slice_get xs k ≡ Some x → option_map_or p (h x) true ≡ true → list_all p (filter_map h (take (k + 1) xs)) ≡ true
  all_more xs k x all at passes = rw add-one (all_next xs k x all at passes)

  pub all_not : (xs : List X) (k : ℕ) (x : X) → slice_get xs k ≡ Some x → option_map_or p (h x) true ≡ false → list_all p (filter_map h xs) ≡ false
  all_not [] k x at fails = absurd (cc)
  all_not (y ∷ xs) zero x at fails =
      let same : y ≡ x = cc in
      rw same (first (h x) (filter_map h xs) ∙ rw fails refl)
  all_not (y ∷ xs) (suc k) x at fails =
      first (h y) (filter_map h xs) ∙ and_right _ _ (all_not xs k x at fails)
