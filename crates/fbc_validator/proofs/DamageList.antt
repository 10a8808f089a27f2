-- The list of damages, page by page.
use Rattle.std.proofs.Common.{◌≡◌, ◌↔◌, ℕ, cond, List, [], ◌∷◌, ◌++◌, filter, map, Option, None, Some, is_some, Contains, inl, inr, sym, subst, ap, ◌∙◌, refl}
use Rattle.std.specs.List.{flat_map}
use Rattle.std.specs.List.Sorted.{IsStrictlyIncreasing}
use Rattle.std.proofs.lemmas.List.{map-append}
use Rattle.std.proofs.lemmas.List.Kept.{IsStrictlyIncreasing-filter}
use Rattle.fbc_kinds.specs.declared.rules.Rule.{Rule}
use Rattle.fbc_validator.specs.Damages.{damage_of}
use Rattle.fbc_reach.proofs.Members.{In, flat_map_in, in_flat_map}
use Rattle.fbc_validator.proofs.Places.{contains_in, in_contains}

module _ (f : ℕ → Option Rule) where
  abbrev pub damages_of : List ℕ → List (ℕ × Rule)
  damages_of pages = flat_map (λ page. damage_of page (f page)) pages

  one_page : (page : ℕ) (o : Option Rule) (rest : List ℕ) → map (λ (d : ℕ × Rule). d.0) (damage_of page o) ++ rest ≡ cond (is_some o) (page ∷ rest) rest
  one_page page None rest = refl
  one_page page (Some r) rest = refl

  -- The pages of the list are those that break a rule.
  pages_of : (pages : List ℕ) → map (λ (d : ℕ × Rule). d.0) (damages_of pages) ≡ filter (λ page. is_some (f page)) pages
  pages_of [] = refl
  pages_of (p ∷ ps) =
      map-append (λ (d : ℕ × Rule). d.0) (damage_of p (f p)) (damages_of ps)
      ∙ ap (λ rest. map (λ (d : ℕ × Rule). d.0) (damage_of p (f p)) ++ rest) (pages_of ps)
      ∙ one_page p (f p) (filter (λ page. is_some (f page)) ps)

  pub damages_rise : (pages : List ℕ) → IsStrictlyIncreasing pages → IsStrictlyIncreasing (map (λ (d : ℕ × Rule). d.0) (damages_of pages))
  damages_rise pages rise = subst IsStrictlyIncreasing (sym (pages_of pages)) (IsStrictlyIncreasing-filter (λ page. is_some (f page)) pages rise)

  in_damage : (page other : ℕ) (broken : Rule) (o : Option Rule) → In (damage_of other o) (page, broken) → (other ≡ page) × (o ≡ Some broken)
  in_damage page other broken None i = absurd i
  in_damage page other broken (Some r) (inl e) = (ap (λ (d : ℕ × Rule). d.0) e, ap (λ (d : ℕ × Rule). Some d.1) e)
  in_damage page other broken (Some r) (inr i) = absurd i

  damage_in : (page : ℕ) (broken : Rule) (o : Option Rule) → o ≡ Some broken → In (damage_of page o) (page, broken)
  damage_in page broken None e = cc
  damage_in page broken (Some r) e = let same : r ≡ broken = cc in inl (ap (λ x. (page, x)) same)

  -- A page stands in the list with the rule that it breaks.
  pub damages_listed : (pages : List ℕ) (page : ℕ) (broken : Rule) → Contains (damages_of pages) (page, broken) ↔ (Contains pages page × (f page ≡ Some broken))
  damages_listed pages page broken = (
    (λ stands.
        let found = flat_map_in (λ p. damage_of p (f p)) pages (page, broken) (contains_in (damages_of pages) (page, broken) stands) in
        let one = in_damage page found.0 broken (f found.0) found.2 in
        (subst (Contains pages) one.0 (in_contains pages found.0 found.1), ap f (sym one.0) ∙ one.1)),
    (λ both.
        in_contains (damages_of pages) (page, broken)
        (in_flat_map (λ p. damage_of p (f p)) pages page (page, broken) (contains_in pages page both.0) (damage_in page broken (f page) both.1))),
  )
