-- Cells in rising order, page by page.
use Rattle.std.proofs.Common.{◌≡◌, ℕ, suc, ◌<◌, List, [], ◌∷◌, ◌++◌, length, get_or, inl, inr, refl, arith}
use Rattle.std.specs.Prelude.{All, AllPairs, Contains}
use Rattle.std.specs.List.{flat_map}
use Rattle.std.proofs.lemmas.List.Elements.{All-weaker, All-contains_itself}
use Rattle.std.proofs.lemmas.List.Kept.{AllPairs-cons}
use Rattle.fbc_kinds.specs.Lost.{ComesBefore}
use Rattle.fbc_reach.proofs.Members.{In, in_either, flat_map_in}
use Rattle.fbc_validator.proofs.Places.{contains_in, in_contains}

-- Each cell comes before all later ones.
abbrev pub Rises : List (ℕ × ℕ) → Type 0
Rises [] = Unit {0}
Rises (x ∷ xs) = ((y : ℕ × ℕ) → In xs y → ComesBefore x y) × Rises xs

pub pairs_rise : (xs : List (ℕ × ℕ)) → Rises xs → AllPairs ComesBefore xs
pairs_rise [] rises = λ i j d lt below. absurd (omega arith)
pairs_rise (x ∷ xs) rises =
    let later : All (ComesBefore x) xs = All-weaker (Contains xs) (ComesBefore x) (λ y c. rises.0 y (contains_in xs y c)) xs (All-contains_itself xs) in
    AllPairs-cons ComesBefore x xs later (pairs_rise xs rises.1)

rises_both : (xs ys : List (ℕ × ℕ)) → Rises xs → Rises ys → ((x y : ℕ × ℕ) → In xs x → In ys y → ComesBefore x y) → Rises (xs ++ ys)
rises_both [] ys one two before = two
rises_both (x ∷ xs) ys one two before = (
  (λ y i. elim (in_either xs ys y i) [ inl l ↦ one.0 y l | inr r ↦ before x y (inl refl) r ]),
  rises_both xs ys one.1 two (λ a b i j. before a b (inr i) j),
)

-- The cells of rising pages rise where those of each page do.
module _ (f : ℕ → List (ℕ × ℕ)) (own : (page : ℕ) (x : ℕ × ℕ) → In (f page) x → x.0 ≡ page) (each : (page : ℕ) → Rises (f page)) where
  pub pages_rise : (pages : List ℕ) → AllPairs (λ x y. x < y) pages → Rises (flat_map f pages)
  pages_rise [] rise = tt
  pages_rise (p ∷ ps) rise =
      rises_both (f p) (flat_map f ps) (each p)
      (pages_rise ps (λ i j d lt below. rise (suc i) (suc j) d (omega arith) (omega arith)))
      (λ x y i j.
      let from = flat_map_in f ps y j in
      let c = in_contains ps from.0 from.1 in
      let below : c.0 < length ps = c.1 in
      let less : p < get_or ps c.0 from.0 = rise 0 (suc c.0) from.0 (omega arith) (omega arith) in
      let page : get_or ps c.0 from.0 ≡ from.0 = c.2 in
      let first : x.0 ≡ p = own p x i in
      let second : y.0 ≡ from.0 = own from.0 y from.2 in
      inl (let order : x.0 < y.0 = omega arith in order))
