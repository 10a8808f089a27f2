-- The list of the cells that hold a back version which no good link names.
use Rattle.std.proofs.Common.{◌≡◌, ℕ, zero, suc, ◌+◌, ◌<◌, Bool, true, false, List, [], ◌∷◌, ◌++◌, length, take, get_or, slice_get, Some, inl, inr, refl, sym, subst, ap, ◌∙◌, arith, append_assoc, if◌then◌else◌}
use Rattle.std.proofs.lemmas.List.{append-nil, take_more, length-take-le}
use Rattle.fbc_kinds.specs.Lost.{ComesBefore}
use Rattle.fbc_validator.specs.Lost.{is_unlinked, unlinked_from}
use Rattle.fbc_links.specs.declared.chains.Chains.{Chains}
use Rattle.fbc_reach.specs.declared.content.Version.{Version}
use Rattle.fbc_reach.proofs.Members.{In}
use Rattle.fbc_validator.proofs.Rising.{Rises}

-- A cell of the list is the place of such a version.
pub record IsUnlinked (chains : Chains) (page first : ℕ) (versions : List Version) (x : ℕ × ℕ) : Type 0 where
  pub at : ℕ
  pub version : Version
  pub stands : slice_get versions at ≡ Some version
  pub passes : is_unlinked chains page (first + at) version ≡ true
  pub is : (page, first + at) ≡ x

module _ (chains : Chains) (page : ℕ) where
  -- The list from a place on, by the test of the version there.
  abbrev from : ℕ → Bool → List Version → List (ℕ × ℕ)
  from first b versions = if b then (page, first) ∷ unlinked_from chains page (suc first) versions else unlinked_from chains page (suc first) versions

  pub unlinked_at : (first : ℕ) (versions : List Version) (x : ℕ × ℕ) → In (unlinked_from chains page first versions) x → IsUnlinked chains page first versions x
  unlinked_at first [] x i = absurd i
  unlinked_at first (v ∷ vs) x i = go (is_unlinked chains page first v) refl i (unlinked_at (suc first) vs x)
    where
      later : IsUnlinked chains page (suc first) vs x → IsUnlinked chains page first (v ∷ vs) x
      later found =
          let next : suc first + found.at ≡ first + suc found.at = omega arith in
          record {
            at = suc found.at;
            version = found.version;
            stands = found.stands;
            passes = ap (λ cell. is_unlinked chains page cell found.version) (sym next) ∙ found.passes;
            is = ap (λ cell. (page, cell)) (sym next) ∙ found.is;
          }

      go : (b : Bool) → is_unlinked chains page first v ≡ b → In (from first b vs) x
          → (In (unlinked_from chains page (suc first) vs) x → IsUnlinked chains page (suc first) vs x) → IsUnlinked chains page first (v ∷ vs) x
      go true passes (inl e) below =
          let start : first + 0 ≡ first = omega arith in
          record {
            at = 0;
            version = v;
            stands = refl;
            passes = ap (λ cell. is_unlinked chains page cell v) start ∙ passes;
            is = ap (λ cell. (page, cell)) start ∙ e;
          }
      go true passes (inr i) below = later (below i)
      go false fails i below = later (below i)

  pub at_unlinked : (first : ℕ) (versions : List Version) (k : ℕ) (version : Version) → slice_get versions k ≡ Some version → is_unlinked chains page (first + k) version ≡ true
      → In (unlinked_from chains page first versions) (page, first + k)
  at_unlinked first [] k version stands passes = cc
  at_unlinked first (v ∷ vs) zero version stands passes =
      let same : v ≡ version = cc in
      let start : first + 0 ≡ first = omega arith in
      let here : is_unlinked chains page first v ≡ true = ap (is_unlinked chains page first) same ∙ ap (λ cell. is_unlinked chains page cell version) (sym start) ∙ passes in
      let P : Bool → Type 0 = λ b. In (from first b vs) (page, first + 0) in
      subst P (sym here) (inl (ap (λ cell. (page, cell)) (sym start)))
  at_unlinked first (v ∷ vs) (suc k) version stands passes =
      let next : suc first + k ≡ first + suc k = omega arith in
      let below = at_unlinked (suc first) vs k version stands (ap (λ cell. is_unlinked chains page cell version) next ∙ passes) in
      let P : ℕ → Type 0 = λ cell. In (unlinked_from chains page (suc first) vs) (page, cell) in
      go (is_unlinked chains page first v) (subst P next below)
    where
      go : (b : Bool) → In (unlinked_from chains page (suc first) vs) (page, first + suc k) → In (from first b vs) (page, first + suc k)
      go true i = inr i
      go false i = i

  pub unlinked_rise : (first : ℕ) (versions : List Version) → Rises (unlinked_from chains page first versions)
  unlinked_rise first [] = tt
  unlinked_rise first (v ∷ vs) = go (is_unlinked chains page first v) (unlinked_rise (suc first) vs)
    where
      go : (b : Bool) → Rises (unlinked_from chains page (suc first) vs) → Rises (from first b vs)
      go true below = (
        (λ y i.
            let found = unlinked_at (suc first) vs y i in
            let P : ℕ × ℕ → Type 0 = ComesBefore (page, first) in
            let less : first < suc first + found.at = omega arith in
            subst P found.is (inr (refl, less))),
        below,
      )
      go false below = below

  unlinked_both : (first : ℕ) (xs ys : List Version)
      → unlinked_from chains page first (xs ++ ys) ≡ unlinked_from chains page first xs ++ unlinked_from chains page (first + length xs) ys
  unlinked_both first [] ys = ap (λ at. unlinked_from chains page at ys) (let start : first ≡ first + 0 = omega arith in start)
  unlinked_both first (x ∷ xs) ys = go (is_unlinked chains page first x) (unlinked_both (suc first) xs ys ∙ ap (λ at. unlinked_from chains page (suc first) xs ++ unlinked_from chains page at ys) (let next : suc first + length xs ≡ first + length (x ∷ xs) = omega arith in next))
    where
      go : (b : Bool)
          → unlinked_from chains page (suc first) (xs ++ ys) ≡ unlinked_from chains page (suc first) xs ++ unlinked_from chains page (first + length (x ∷ xs)) ys
          → from first b (xs ++ ys) ≡ from first b xs ++ unlinked_from chains page (first + length (x ∷ xs)) ys
      go true below = ap (λ rest. (page, first) ∷ rest) below
      go false below = below

  -- With one version more.
  unlinked_more : (before now : List (ℕ × ℕ)) (versions : List Version) (i : ℕ) (d : Version) → i < length versions
      → now ≡ before ++ unlinked_from chains page 0 (take i versions)
      → now ++ unlinked_from chains page i (get_or versions i d ∷ []) ≡ before ++ unlinked_from chains page 0 (take (i + 1) versions)
  unlinked_more before now versions i d below was =
      let version : Version = get_or versions i d in
      let count : i ≡ 0 + length (take i versions) = (let l : length (take i versions) ≡ i = length-take-le i versions (omega arith) in omega arith) in
      ap (λ all. all ++ unlinked_from chains page i (version ∷ [])) was
      ∙ append_assoc before (unlinked_from chains page 0 (take i versions)) (unlinked_from chains page i (version ∷ []))
      ∙ ap (λ at. before ++ (unlinked_from chains page 0 (take i versions) ++ unlinked_from chains page at (version ∷ []))) count
      ∙ ap (λ all. before ++ all) (sym (unlinked_both 0 (take i versions) (version ∷ [])))
      ∙ ap (λ some. before ++ unlinked_from chains page 0 some) (sym (take_more versions i d below))

  pub unlinked_step : (before now new : List (ℕ × ℕ)) (versions : List Version) (i : ℕ) (d : Version) (b : Bool) → i < length versions
      → is_unlinked chains page i (get_or versions i d) ≡ b
      → now ≡ before ++ unlinked_from chains page 0 (take i versions)
      → new ≡ (if b then now ++ (page, i) ∷ [] else now)
      → new ≡ before ++ unlinked_from chains page 0 (take (i + 1) versions)
  unlinked_step before now new versions i d b below test was is =
      is
      ∙ either b
      ∙ ap (λ t. now ++ (if t then (page, i) ∷ [] else [])) (sym test)
      ∙ unlinked_more before now versions i d below was
    where
      either : (b : Bool) → (if b then now ++ (page, i) ∷ [] else now) ≡ now ++ (if b then (page, i) ∷ [] else [])
      either true = refl
      either false = sym (append-nil now)
