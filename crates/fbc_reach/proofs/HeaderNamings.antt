-- The namings of a header are the pages that a view with this header reaches by it.
use Rattle.std.proofs.Common.{◌≡◌, ℕ, zero, suc, ◌+◌, ◌<◌, Bool, true, false, nat_lt, List, [], ◌∷◌, Option, Some, None, ◌⊎◌, inl, inr, refl, sym, subst, ap, ◌∙◌, arith, slice_get, if◌then◌else◌}
use Rattle.std.specs.Option.{option_and_then}
use Rattle.std.proofs.lemmas.Bool.{cases_lt, ltb-true, lt-ltb}
use Rattle.fbc_kinds.specs.declared.pages.Header.{Header}
use Rattle.fbc_kinds.specs.declared.pages.Relation.{Relation}
use Rattle.fbc_kinds.specs.View.{View, header_of, inventory_page, inventory_of, tip_of, pointer_of}
use Rattle.fbc_reach.specs.declared.namings.Role.TheVariants as role
use Rattle.fbc_reach.specs.declared.namings.Naming.{Naming}
use Rattle.fbc_reach.specs.Walk.{naming, inventories_named, pointers_named, named_in_row, inventory_namings, tip_namings, pointer_namings}
use Rattle.fbc_reach.proofs.Members.{In, in_left, in_right, in_either, in_row, row_in}

in_inventories : (size count s : ℕ) → s < count → In (inventories_named size count) (naming (inventory_page size s) (role.Inventory s))
in_inventories size zero s below = absurd (omega arith)
in_inventories size (suc count) s below =
    elim (cases_lt s count) [
      | inl lt ↦ in_left (inventories_named size count) _ _ (in_inventories size count s lt)
      | inr ge ↦
          (let same : count ≡ s = omega arith in
          in_right (inventories_named size count) _ _ (inl (ap (λ k. naming (inventory_page size k) (role.Inventory k)) same)))
    ]

inventories_in : (size count : ℕ) (n : Naming) → In (inventories_named size count) n → (s : ℕ) × (s < count) × (naming (inventory_page size s) (role.Inventory s) ≡ n)
inventories_in size zero n i = absurd i
inventories_in size (suc count) n i =
    elim (in_either (inventories_named size count) _ n i) [
      | inl l ↦ (let found = inventories_in size count n l in (found.0, (let below : found.0 < suc count = omega (arith, found.1) in below), found.2))
      | inr r ↦ elim r [ inl e ↦ (count, (let below : count < suc count = omega arith in below), e) | inr none ↦ absurd none ]
    ]

in_pointers : (number : ℕ) (relations : List Relation) (r k page : ℕ) (relation : Relation)
    → slice_get relations r ≡ Some relation → slice_get relation.pointers k ≡ Some page
    → In (pointers_named number relations) (naming page (role.Pointer (number + r) k))
in_pointers number [] r k page relation e f = cc
in_pointers number (x ∷ xs) zero k page relation e f =
    let same : relation ≡ x = cc in
    let here : slice_get x.pointers k ≡ Some page = sym (ap (λ (y : Relation). slice_get y.pointers k) same) ∙ f in
    let P : ℕ → Type 0 = λ at. In (named_in_row (role.Pointer number) 0 x.pointers) (naming page (role.Pointer number at)) in
    let Q : ℕ → Type 0 = λ at. In (pointers_named number (x ∷ xs)) (naming page (role.Pointer at k)) in
    let start : 0 + k ≡ k = omega arith in
    let first : number ≡ number + 0 = omega arith in
    subst Q first (in_left (named_in_row (role.Pointer number) 0 x.pointers) _ _ (subst P start (in_row (role.Pointer number) 0 x.pointers k page here)))
in_pointers number (x ∷ xs) (suc r) k page relation e f =
    let P : ℕ → Type 0 = λ at. In (pointers_named (suc number) xs) (naming page (role.Pointer at k)) in
    let next : suc number + r ≡ number + suc r = omega arith in
    in_right (named_in_row (role.Pointer number) 0 x.pointers) _ _ (subst P next (in_pointers (suc number) xs r k page relation e f))

pub record IsPointerNaming (number : ℕ) (relations : List Relation) (n : Naming) : Type 0 where
  pub place : ℕ
  pub sequence : ℕ
  pub relation : Relation
  pub has : slice_get relations place ≡ Some relation
  pub stands : slice_get relation.pointers sequence ≡ Some n.page
  pub role_is : n.role ≡ role.Pointer (number + place) sequence

pub pointers_in : (number : ℕ) (relations : List Relation) (n : Naming) → In (pointers_named number relations) n → IsPointerNaming number relations n
pointers_in number [] n i = absurd i
pointers_in number (x ∷ xs) n i = go (in_either (named_in_row (role.Pointer number) 0 x.pointers) _ n i) (pointers_in (suc number) xs n)
  where
    go : In (named_in_row (role.Pointer number) 0 x.pointers) n ⊎ In (pointers_named (suc number) xs) n
        → (In (pointers_named (suc number) xs) n → IsPointerNaming (suc number) xs n) → IsPointerNaming number (x ∷ xs) n
    go (inl l) later =
        let found = row_in (role.Pointer number) 0 x.pointers n l in
        let start : 0 + found.at ≡ found.at = omega arith in
        let first : number ≡ number + 0 = omega arith in
        record {
          place = 0;
          sequence = found.at;
          relation = x;
          has = refl;
          stands = found.stands;
          role_is = found.role_is ∙ ap (role.Pointer number) start ∙ ap (λ r. role.Pointer r found.at) first;
        }
    go (inr r) later =
        let found = later r in
        let next : suc number + found.place ≡ number + suc found.place = omega arith in
        record {
          place = suc found.place;
          sequence = found.sequence;
          relation = found.relation;
          has = found.has;
          stands = found.stands;
          role_is = found.role_is ∙ ap (λ r. role.Pointer r found.sequence) next;
        }

-- With a header.
module _ (view : View) (h : Header) (is : header_of view ≡ Some h) where
  pub inventory_named : (s page : ℕ) → inventory_of view s ≡ Some page → In (inventory_namings (header_of view)) (naming page (role.Inventory s))
  inventory_named s page e = rw is (go (nat_lt s h.inventories) refl (sym (ap (option_and_then (λ (g : Header). if nat_lt s g.inventories then Some (inventory_page g.size s) else None)) is) ∙ e))
    where
      go : (b : Bool) → nat_lt s h.inventories ≡ b → (if b then Some (inventory_page h.size s) else None) ≡ Some page → In (inventories_named h.size h.inventories) (naming page (role.Inventory s))
      go true below e =
          let same : inventory_page h.size s ≡ page = cc in
          let P : ℕ → Type 0 = λ p. In (inventories_named h.size h.inventories) (naming p (role.Inventory s)) in
          subst P same (in_inventories h.size h.inventories s (ltb-true s h.inventories below))
      go false below e = cc

  pub tip_named : (s page : ℕ) → tip_of view s ≡ Some page → In (tip_namings (header_of view)) (naming page (role.Tip s))
  tip_named s page e =
      let here : slice_get h.tips s ≡ Some page = sym (ap (option_and_then (λ (g : Header). slice_get g.tips s)) is) ∙ e in
      let P : ℕ → Type 0 = λ at. In (named_in_row role.Tip 0 h.tips) (naming page (role.Tip at)) in
      let start : 0 + s ≡ s = omega arith in
      rw is (subst P start (in_row role.Tip 0 h.tips s page here))

  pub pointer_named : (r k page : ℕ) → pointer_of view r k ≡ Some page → In (pointer_namings (header_of view)) (naming page (role.Pointer r k))
  pointer_named r k page e = rw is (go (slice_get h.relations r) refl (sym (ap (λ o. option_and_then (λ (x : Relation). slice_get x.pointers k) (option_and_then (λ (g : Header). slice_get g.relations r) o)) is) ∙ e))
    where
      go : (o : Option Relation) → slice_get h.relations r ≡ o → option_and_then (λ (x : Relation). slice_get x.pointers k) o ≡ Some page → In (pointers_named 0 h.relations) (naming page (role.Pointer r k))
      go None there e = cc
      go (Some relation) there e =
          let P : ℕ → Type 0 = λ at. In (pointers_named 0 h.relations) (naming page (role.Pointer at k)) in
          let start : 0 + r ≡ r = omega arith in
          subst P start (in_pointers 0 h.relations r k page relation there e)

  pub inventory_reached : (n : Naming) → In (inventory_namings (header_of view)) n → (s : ℕ) × (n.role ≡ role.Inventory s) × (inventory_of view s ≡ Some n.page)
  inventory_reached n i =
      let P : Option Header → Type 0 = λ o. In (inventory_namings o) n in
      let found = inventories_in h.size h.inventories n (subst P is i) in
      let below : nat_lt found.0 h.inventories ≡ true = lt-ltb _ _ found.1 in (
        found.0,
        sym (ap (λ (m : Naming). m.role) found.2),
        ap (option_and_then (λ (g : Header). if nat_lt found.0 g.inventories then Some (inventory_page g.size found.0) else None)) is
            ∙ ap (λ b. if b then Some (inventory_page h.size found.0) else None) below
            ∙ ap (λ (m : Naming). Some m.page) found.2,
      )

  pub tip_reached : (n : Naming) → In (tip_namings (header_of view)) n → (s : ℕ) × (n.role ≡ role.Tip s) × (tip_of view s ≡ Some n.page)
  tip_reached n i =
      let P : Option Header → Type 0 = λ o. In (tip_namings o) n in
      let found = row_in role.Tip 0 h.tips n (subst P is i) in
      let start : 0 + found.at ≡ found.at = omega arith in
      (found.at, found.role_is ∙ ap role.Tip start, ap (option_and_then (λ (g : Header). slice_get g.tips found.at)) is ∙ found.stands)

  pub pointer_reached : (n : Naming) → In (pointer_namings (header_of view)) n → (r k : ℕ) × (n.role ≡ role.Pointer r k) × (pointer_of view r k ≡ Some n.page)
  pointer_reached n i =
      let P : Option Header → Type 0 = λ o. In (pointer_namings o) n in
      let found = pointers_in 0 h.relations n (subst P is i) in
      let start : 0 + found.place ≡ found.place = omega arith in (
        found.place,
        found.sequence,
        found.role_is ∙ ap (λ r. role.Pointer r found.sequence) start,
        ap (λ o. option_and_then (λ (x : Relation). slice_get x.pointers found.sequence) (option_and_then (λ (g : Header). slice_get g.relations found.place) o)) is
            ∙ ap (option_and_then (λ (x : Relation). slice_get x.pointers found.sequence)) found.has
            ∙ found.stands,
      )
