-- Items and their places in a list, and numbers in a row.
use Rattle.std.proofs.Common.{◌≡◌, ℕ, zero, suc, ◌+◌, ◌<◌, ◌≤◌, Bool, true, false, cond, if◌then◌else◌, List, [], ◌∷◌, ◌++◌, length, min, take, filter, get_or, inl, inr, refl, sym, ap, ◌∙◌, arith}
use Rattle.std.specs.Prelude.{Contains}
use Rattle.std.specs.List.{range_with_len}
use Rattle.std.specs.List.Sorted.{IsStrictlyIncreasing}
use Rattle.std.proofs.lemmas.Bool.{cases_eq, cases_lt}
use Rattle.std.proofs.lemmas.List.{append-nil, take_all}
use Rattle.std.proofs.lemmas.List.Elements.{filter-append}
use Rattle.std.proofs.lemmas.List.FromFn.{length-range_with_len, get_or-range_with_len}
use Rattle.fbc_reach.proofs.Members.{In}

pub contains_in : {X : Type 0} (xs : List X) (x : X) → Contains xs x → In xs x
contains_in [] x c = let none : c.0 < 0 = c.1 in absurd (omega arith)
contains_in (y ∷ ys) x c = go c.0 c.1 c.2 (contains_in ys x)
  where
    go : (k : ℕ) → k < length (y ∷ ys) → get_or (y ∷ ys) k x ≡ x → (Contains ys x → In ys x) → In (y ∷ ys) x
    go zero below e later = inl e
    go (suc k) below e later = inr (later (k, (let less : k < length ys = omega arith in less), e))

pub in_contains : {X : Type 0} (xs : List X) (x : X) → In xs x → Contains xs x
in_contains [] x i = absurd i
in_contains (y ∷ ys) x (inl e) = (0, (let first : 0 < length (y ∷ ys) = omega arith in first), e)
in_contains (y ∷ ys) x (inr i) =
    let c = in_contains ys x i in
    let less : c.0 < length ys = c.1 in
    (suc c.0, (let next : suc c.0 < length (y ∷ ys) = omega arith in next), c.2)

-- The numbers from one on, so many.
pub range_in : (a n x : ℕ) → a ≤ x → x < a + n → In (range_with_len a n) x
range_in a zero x from below = absurd (omega arith)
range_in a (suc n) x from below =
    elim (cases_eq a x) [ inl e ↦ inl e | inr differ ↦ inr (range_in (a + 1) n x (omega arith) (omega arith)) ]

pub in_range : (a n x : ℕ) → In (range_with_len a n) x → (a ≤ x) × (x < a + n)
in_range a zero x i = absurd i
in_range a (suc n) x (inl e) = ((let from : a ≤ x = omega arith in from), (let below : x < a + suc n = omega arith in below))
in_range a (suc n) x (inr i) =
    let later = in_range (a + 1) n x i in
    let from : a + 1 ≤ x = later.0 in
    let below : x < a + 1 + n = later.1 in
    ((let first : a ≤ x = omega arith in first), (let last : x < a + suc n = omega arith in last))

pub range_rises : (a n : ℕ) → IsStrictlyIncreasing (range_with_len a n)
range_rises a n k below =
    let count = length-range_with_len a n in
    let here : get_or (range_with_len a n) k 0 ≡ a + k = get_or-range_with_len a n k 0 (omega arith) in
    let next : get_or (range_with_len a n) (k + 1) 0 ≡ a + (k + 1) = get_or-range_with_len a n (k + 1) 0 (omega arith) in
    omega arith

range_more : (a n : ℕ) → range_with_len a (suc n) ≡ range_with_len a n ++ (a + n) ∷ []
range_more a zero = ap (λ x. x ∷ []) (let same : a ≡ a + 0 = omega arith in same)
range_more a (suc n) =
    ap (λ rest. a ∷ rest)
    (range_more (a + 1) n ∙ ap (λ x. range_with_len (a + 1) n ++ x ∷ []) (let same : a + 1 + n ≡ a + suc n = omega arith in same))

-- Those of the first numbers that pass a test, with one number more.
passing_more : (p : ℕ → Bool) (n : ℕ) → filter p (range_with_len 0 (n + 1)) ≡ filter p (range_with_len 0 n) ++ cond (p n) (n ∷ []) []
passing_more p n =
    ap (λ count. filter p (range_with_len 0 count)) (let same : n + 1 ≡ suc n = omega arith in same)
    ∙ ap (filter p) (range_more 0 n)
    ∙ ap (λ x. filter p (range_with_len 0 n ++ x ∷ [])) (let same : 0 + n ≡ n = omega arith in same)
    ∙ filter-append p (range_with_len 0 n) (n ∷ [])

pub passing_step : (p : ℕ → Bool) (n : ℕ) (now new : List ℕ) (b : Bool) → p n ≡ b → now ≡ filter p (range_with_len 0 n) → new ≡ (if b then now ++ n ∷ [] else now)
    → new ≡ filter p (range_with_len 0 (n + 1))
passing_step p n now new b test was is =
    is
    ∙ either b
    ∙ ap (λ t. now ++ (if t then n ∷ [] else [])) (sym test)
    ∙ ap (λ all. all ++ (if p n then n ∷ [] else [])) was
    ∙ sym (passing_more p n)
  where
    either : (b : Bool) → (if b then now ++ n ∷ [] else now) ≡ now ++ (if b then n ∷ [] else [])
    either true = refl
    either false = sym (append-nil now)

-- At most so many items of a list.
pub take_least : {X : Type 0} (xs : List X) (n limit : ℕ) → n ≡ min (length xs) limit → take n xs ≡ take limit xs
take_least xs n limit least =
    elim (cases_lt limit (length xs)) [
      | inl lt ↦ (let same : n ≡ limit = omega arith in ap (λ count. take count xs) same)
      | inr ge ↦ (let all : length xs ≤ n = omega arith in take_all n xs all ∙ sym (take_all limit xs ge))
    ]
