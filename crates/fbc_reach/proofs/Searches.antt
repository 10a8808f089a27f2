-- Searches and tests of lists: with items behind them that change nothing, for what none passes, and by tests that agree.
use Rattle.std.proofs.Common.{◌≡◌, ◌||◌, Bool, true, false, cond, List, [], ◌∷◌, ◌++◌, find, Option, Some, None, inl, inr, refl, sym, ap, ◌∙◌, true≢false}
use Rattle.std.specs.List.{list_any}
use Rattle.std.specs.Option.{option_or}
use Rattle.std.proofs.lemmas.List.Folds.{find-append, list_any-append}
use Rattle.fbc_reach.proofs.Members.{In, find_in}
use Rattle.fbc_reach.proofs.Tallied.{or_false}

or_same : (a b : Bool) → (b ≡ true → a ≡ true) → (a || b) ≡ a
or_same true b same = refl
or_same false true same = absurd (true≢false (sym (same refl)))
or_same false false same = refl

module _ {X : Type 0} where
  found_in : (o : Option X) → ((x : X) → o ≡ Some x → ⊥) → o ≡ None
  found_in None never = refl
  found_in (Some x) never = absurd (never x refl)

  or_kept : (a b : Option X) → ((y : X) → b ≡ Some y → (x : X) × (a ≡ Some x)) → option_or a b ≡ a
  or_kept (Some x) b kept = refl
  or_kept None b kept = found_in b (λ y e. let no : None ≡ Some (kept y e).0 = (kept y e).1 in cc)

  pub find_kept : (test : X → Bool) (xs ys : List X) → ((y : X) → In ys y → test y ≡ true → (x : X) × (find test xs ≡ Some x)) → find test (xs ++ ys) ≡ find test xs
  find_kept test xs ys kept =
      find-append test xs ys
      ∙ or_kept (find test xs) (find test ys) (λ y e. let member = find_in test ys y e in kept y member.0 member.1)

  any_true : (test : X → Bool) (xs : List X) (b : Bool) → ((x : X) → In xs x → test x ≡ true → b ≡ true) → list_any test xs ≡ true → b ≡ true
  any_true test [] b each e = cc
  any_true test (x ∷ xs) b each e = go (test x) refl e (any_true test xs b (λ y i. each y (inr i)))
    where
      go : (here : Bool) → test x ≡ here → (here || list_any test xs) ≡ true → (list_any test xs ≡ true → b ≡ true) → b ≡ true
      go true is e later = each x (inl refl) is
      go false is e later = later e

  pub any_kept : (test : X → Bool) (xs ys : List X) → ((y : X) → In ys y → test y ≡ true → list_any test xs ≡ true) → list_any test (xs ++ ys) ≡ list_any test xs
  any_kept test xs ys kept =
      list_any-append test xs ys ∙ or_same (list_any test xs) (list_any test ys) (any_true test ys (list_any test xs) kept)

  pub any_same : (f g : X → Bool) (xs : List X) → ((x : X) → In xs x → f x ≡ g x) → list_any f xs ≡ list_any g xs
  any_same f g [] same = refl
  any_same f g (x ∷ xs) same = ap (λ b. b || list_any f xs) (same x (inl refl)) ∙ ap (λ b. g x || b) (any_same f g xs (λ y i. same y (inr i)))

  pub any_more : (test : X → Bool) (xs : List X) (x : X) → list_any test (xs ++ x ∷ []) ≡ (list_any test xs || test x)
  any_more test xs x = list_any-append test xs (x ∷ []) ∙ ap (λ b. list_any test xs || b) (or_false (test x))

  -- A search for what none passes, and a search by tests that agree.
  pub find_fails : (test : X → Bool) (xs : List X) → ((n : X) → In xs n → test n ≡ false) → find test xs ≡ None
  find_fails test [] each = refl
  find_fails test (x ∷ xs) each = ap (λ b. cond b (Some x) (find test xs)) (each x (inl refl)) ∙ find_fails test xs (λ n i. each n (inr i))

  pub find_agrees : (test other : X → Bool) (xs : List X) → ((n : X) → In xs n → test n ≡ other n) → find test xs ≡ find other xs
  find_agrees test other [] each = refl
  find_agrees test other (x ∷ xs) each =
      ap (λ b. cond b (Some x) (find test xs)) (each x (inl refl)) ∙ ap (cond (other x) (Some x)) (find_agrees test other xs (λ n i. each n (inr i)))
