-- The pages that namings name, in order and each once.
use Rattle.std.proofs.Common.{◌≡◌, ◌↔◌, ℕ, true, eqb, List, [], ◌∷◌, map, inl, inr, refl, ap}
use Rattle.std.specs.Prelude.{Contains}
use Rattle.std.specs.List.{list_any, dedup}
use Rattle.std.specs.List.Sorted.{IsPermutation}
use Rattle.std.proofs.lemmas.List.Kept.{Contains-dedup_nat, Contains-from_dedup}
use Rattle.std.proofs.lemmas.List.Sorted.{Contains-permutation, IsPermutation-sym}
use Rattle.fbc_kinds.proofs.Tests.{same_from_test, test_of_same}
use Rattle.fbc_reach.specs.Walk.{is_of_page}
use Rattle.fbc_reach.specs.declared.namings.Naming.{Naming}
use Rattle.fbc_reach.proofs.Members.{In, any_here, any_some}
use Rattle.fbc_validator.proofs.Places.{contains_in, in_contains}

page_in : (ns : List Naming) (page : ℕ) → In (map (λ (n : Naming). n.page) ns) page → (n : Naming) × In ns n × (n.page ≡ page)
page_in [] page i = absurd i
page_in (n ∷ ns) page (inl e) = (n, inl refl, e)
page_in (n ∷ ns) page (inr i) = let found = page_in ns page i in (found.0, inr found.1, found.2)

in_pages : (ns : List Naming) (n : Naming) → In ns n → In (map (λ (m : Naming). m.page) ns) n.page
in_pages [] n i = absurd i
in_pages (m ∷ ns) n (inl e) = inl (ap (λ (x : Naming). x.page) e)
in_pages (m ∷ ns) n (inr i) = inr (in_pages ns n i)

-- After a sort each of them stands once.
pub pages_named : (ns : List Naming) (sorted once : List ℕ) → IsPermutation (map (λ (n : Naming). n.page) ns) sorted → once ≡ dedup eqb sorted
    → (page : ℕ) → Contains once page ↔ (list_any (is_of_page page) ns ≡ true)
pages_named ns sorted once moved is page = (
  (λ there.
      let all : List ℕ = map (λ (n : Naming). n.page) ns in
      let found = page_in ns page (contains_in all page (Contains-permutation sorted all page (IsPermutation-sym all sorted moved) (Contains-from_dedup eqb sorted page (rw is at there)))) in
      any_here (is_of_page page) ns found.0 found.1 (test_of_same _ _ found.2)),
  (λ named.
      let all : List ℕ = map (λ (n : Naming). n.page) ns in
      let found = any_some (is_of_page page) ns named in
      let n : Naming = found.0 in
      let i = rw (same_from_test n.page page found.2) at (in_pages ns n found.1) in
      rw is (Contains-dedup_nat sorted page (Contains-permutation all sorted page moved (in_contains all page i)))),
)
