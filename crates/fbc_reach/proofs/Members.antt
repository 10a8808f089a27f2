-- Membership in lists, and what tests, searches, filters and joined lists have of it.
use Rattle.std.proofs.Common.{◌≡◌, ℕ, zero, suc, ◌+◌, Bool, true, false, List, [], ◌∷◌, ◌++◌, Some, ◌⊎◌, inl, inr, refl, sym, subst, ap, ◌∙◌, arith, find, filter, slice_get, cond, ◌||◌, true≢false}
use Rattle.std.specs.List.{list_any, flat_map}
use Rattle.fbc_reach.specs.declared.namings.Role.{Role}
use Rattle.fbc_reach.specs.declared.namings.Naming.{Naming}
use Rattle.fbc_reach.specs.Walk.{naming, named_in_row}

neither_left : (a b : Bool) → (a || b) ≡ false → a ≡ false
neither_left true b e = e
neither_left false b e = refl

neither_right : (a b : Bool) → (a || b) ≡ false → b ≡ false
neither_right true b e = cc
neither_right false b e = e

module _ {X : Type 0} where
  -- An item stands in a list.
  abbrev pub In : List X → X → Type 0
  In [] x = ⊥
  In (y ∷ ys) x = (y ≡ x) ⊎ In ys x

  pub in_left : (xs ys : List X) (x : X) → In xs x → In (xs ++ ys) x
  in_left [] ys x i = absurd i
  in_left (y ∷ xs) ys x (inl e) = inl e
  in_left (y ∷ xs) ys x (inr i) = inr (in_left xs ys x i)

  pub in_right : (xs ys : List X) (x : X) → In ys x → In (xs ++ ys) x
  in_right [] ys x i = i
  in_right (y ∷ xs) ys x i = inr (in_right xs ys x i)

  pub in_either : (xs ys : List X) (x : X) → In (xs ++ ys) x → In xs x ⊎ In ys x
  in_either [] ys x i = inr i
  in_either (y ∷ xs) ys x (inl e) = inl (inl e)
  in_either (y ∷ xs) ys x (inr i) = elim (in_either xs ys x i) [ inl l ↦ inl (inr l) | inr r ↦ inr r ]

  pub any_false : (test : X → Bool) (xs : List X) (x : X) → list_any test xs ≡ false → In xs x → test x ≡ false
  any_false test [] x none i = absurd i
  any_false test (y ∷ ys) x none (inl e) = sym (ap test e) ∙ neither_left (test y) _ none
  any_false test (y ∷ ys) x none (inr i) = any_false test ys x (neither_right (test y) _ none) i

  pub any_none : (test : X → Bool) (xs : List X) → ((x : X) → In xs x → test x ≡ false) → list_any test xs ≡ false
  any_none test [] each = refl
  any_none test (y ∷ ys) each = rw (each y (inl refl)) (any_none test ys (λ x i. each x (inr i)))

  pub any_here : (test : X → Bool) (xs : List X) (x : X) → In xs x → test x ≡ true → list_any test xs ≡ true
  any_here test [] x i t = absurd i
  any_here test (y ∷ ys) x (inl e) t = let h : test y ≡ true = ap test e ∙ t in rw h
  any_here test (y ∷ ys) x (inr i) t = go (test y) (any_here test ys x i t)
    where
      go : (b : Bool) → list_any test ys ≡ true → (b || list_any test ys) ≡ true
      go true later = refl
      go false later = later

  pub any_some : (test : X → Bool) (xs : List X) → list_any test xs ≡ true → (x : X) × In xs x × (test x ≡ true)
  any_some test [] some = cc
  any_some test (y ∷ ys) some = go (test y) refl some (any_some test ys)
    where
      go : (b : Bool) → test y ≡ b → (b || list_any test ys) ≡ true → (list_any test ys ≡ true → (x : X) × In ys x × (test x ≡ true)) → (x : X) × In (y ∷ ys) x × (test x ≡ true)
      go true is some later = (y, inl refl, is)
      go false is some later = let found = later some in (found.0, inr found.1, found.2)

  pub find_in : (test : X → Bool) (xs : List X) (x : X) → find test xs ≡ Some x → In xs x × (test x ≡ true)
  find_in test [] x e = cc
  find_in test (y ∷ ys) x e = go (test y) refl e (find_in test ys x)
    where
      go : (b : Bool) → test y ≡ b → cond b (Some y) (find test ys) ≡ Some x → (find test ys ≡ Some x → In ys x × (test x ≡ true)) → In (y ∷ ys) x × (test x ≡ true)
      go true is e later = let same : y ≡ x = cc in (inl same, sym (ap test same) ∙ is)
      go false is e later = let found = later e in (inr found.0, found.1)

  pub find_some : (test : X → Bool) (xs : List X) (x : X) → In xs x → test x ≡ true → (y : X) × (find test xs ≡ Some y)
  find_some test [] x i t = absurd i
  find_some test (y ∷ ys) x i t = go (test y) refl i (λ j. find_some test ys x j t)
    where
      go : (b : Bool) → test y ≡ b → In (y ∷ ys) x → (In ys x → (z : X) × (find test ys ≡ Some z)) → (z : X) × (cond b (Some y) (find test ys) ≡ Some z)
      go true is i later = (y, refl)
      go false is (inl e) later = absurd (true≢false (sym t ∙ sym (ap test e) ∙ is))
      go false is (inr i) later = later i

  pub filter_in : (test : X → Bool) (xs : List X) (x : X) → In (filter test xs) x → In xs x × (test x ≡ true)
  filter_in test [] x i = absurd i
  filter_in test (y ∷ ys) x i = go (test y) refl i (filter_in test ys x)
    where
      go : (b : Bool) → test y ≡ b → In (cond b (y ∷ filter test ys) (filter test ys)) x → (In (filter test ys) x → In ys x × (test x ≡ true)) → In (y ∷ ys) x × (test x ≡ true)
      go true is (inl e) later = (inl e, sym (ap test e) ∙ is)
      go true is (inr i) later = let found = later i in (inr found.0, found.1)
      go false is i later = let found = later i in (inr found.0, found.1)

  pub in_filter : (test : X → Bool) (xs : List X) (x : X) → In xs x → test x ≡ true → In (filter test xs) x
  in_filter test [] x i t = absurd i
  in_filter test (y ∷ ys) x i t = go (test y) refl i (λ j. in_filter test ys x j t)
    where
      go : (b : Bool) → test y ≡ b → In (y ∷ ys) x → (In ys x → In (filter test ys) x) → In (cond b (y ∷ filter test ys) (filter test ys)) x
      go true is (inl e) later = inl e
      go true is (inr i) later = inr (later i)
      go false is (inl e) later = absurd (true≢false (sym t ∙ sym (ap test e) ∙ is))
      go false is (inr i) later = later i

module _ {X Y : Type 0} (f : X → List Y) where
  pub in_flat_map : (xs : List X) (x : X) (y : Y) → In xs x → In (f x) y → In (flat_map f xs) y
  in_flat_map [] x y i j = absurd i
  in_flat_map (z ∷ zs) x y (inl e) j = in_left (f z) (flat_map f zs) y (let P : X → Type 0 = λ w. In (f w) y in subst P (sym e) j)
  in_flat_map (z ∷ zs) x y (inr i) j = in_right (f z) (flat_map f zs) y (in_flat_map zs x y i j)

  pub flat_map_in : (xs : List X) (y : Y) → In (flat_map f xs) y → (x : X) × In xs x × In (f x) y
  flat_map_in [] y i = absurd i
  flat_map_in (z ∷ zs) y i = go (in_either (f z) (flat_map f zs) y i) (flat_map_in zs y)
    where
      go : In (f z) y ⊎ In (flat_map f zs) y → (In (flat_map f zs) y → (x : X) × In zs x × In (f x) y) → (x : X) × In (z ∷ zs) x × In (f x) y
      go (inl l) later = (z, inl refl, l)
      go (inr r) later = let found = later r in (found.0, inr found.1, found.2)

-- A page at a place of a row is named in the role of its place, and no other naming stands in the row.
pub in_row : (role_of : ℕ → Role) (place : ℕ) (pages : List ℕ) (k page : ℕ) → slice_get pages k ≡ Some page → In (named_in_row role_of place pages) (naming page (role_of (place + k)))
in_row role_of place [] k page e = cc
in_row role_of place (p ∷ ps) zero page e =
    let same : p ≡ page = cc in inl (let here : place ≡ place + 0 = omega arith in ap (λ q. naming q (role_of place)) same ∙ ap (λ k. naming page (role_of k)) here)
in_row role_of place (p ∷ ps) (suc k) page e =
    let P : ℕ → Type 0 = λ at. In (named_in_row role_of (suc place) ps) (naming page (role_of at)) in
    let there : suc place + k ≡ place + suc k = omega arith in
    inr (subst P there (in_row role_of (suc place) ps k page e))

pub record StandsInRow (role_of : ℕ → Role) (place : ℕ) (pages : List ℕ) (n : Naming) : Type 0 where
  pub at : ℕ
  pub stands : slice_get pages at ≡ Some n.page
  pub role_is : n.role ≡ role_of (place + at)

pub row_in : (role_of : ℕ → Role) (place : ℕ) (pages : List ℕ) (n : Naming) → In (named_in_row role_of place pages) n → StandsInRow role_of place pages n
row_in role_of place [] n i = absurd i
row_in role_of place (p ∷ ps) n (inl e) = record {
  at = 0;
  stands = ap (λ (m : Naming). Some m.page) e;
  role_is = sym (ap (λ (m : Naming). m.role) e) ∙ ap role_of (let here : place ≡ place + 0 = omega arith in here);
}
row_in role_of place (p ∷ ps) n (inr i) =
    let found = row_in role_of (suc place) ps n i in
    record {
      at = suc found.at;
      stands = found.stands;
      role_is = found.role_is ∙ ap role_of (let there : suc place + found.at ≡ place + suc found.at = omega arith in there);
    }
