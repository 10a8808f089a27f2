-- The namings of the walk, and the pages that the view reaches in their roles.
use Rattle.std.proofs.Common.{◌≡◌, ℕ, ◌/◌, true, List, ◌++◌, Option, Some, None, inl, inr, refl, sym, subst, ap, ◌∙◌, ◌%◌, nat_lt, if◌then◌else◌, slice_get}
use Rattle.std.specs.List.{flat_map}
use Rattle.std.specs.Option.{option_and_then}
use Rattle.fbc_kinds.specs.declared.pages.Header.{Header}
use Rattle.fbc_kinds.specs.declared.pages.Relation.{Relation}
use Rattle.fbc_kinds.specs.Limits.{slots}
use Rattle.fbc_kinds.specs.View.{View, header_of, size_of, inventory_page, named_in, pointer_of, data_of}
use Rattle.fbc_kinds.specs.Reach.{page_for}
use Rattle.fbc_kinds.proofs.Tests.{same_from_test, test_of_same}
use Rattle.fbc_reach.specs.declared.namings.Role.{Role}
use Rattle.fbc_reach.specs.declared.namings.Role.TheVariants as role
use Rattle.fbc_reach.specs.declared.namings.Naming.{Naming}
use Rattle.fbc_reach.specs.Roles.{reached_as, is_same_role}
use Rattle.fbc_reach.specs.Walk.{naming, is_of_page, is_in_role, is_first, inventory_namings, tip_namings, pointer_namings, named_by, walked, data_namings, namings}
use Rattle.fbc_reach.proofs.Members.{In, in_left, in_right, in_either, find_in, find_some}
use Rattle.fbc_reach.proofs.SameRoles.{own_role}
use Rattle.fbc_reach.proofs.HeaderNamings.{inventory_named, tip_named, pointer_named, inventory_reached, tip_reached, pointer_reached}
use Rattle.fbc_reach.proofs.DataNamings.{HaveAllSlots, IsDataNaming, data_named, data_reached}

-- A naming names a page in a role in which the view reaches it.
abbrev pub IsReached : View → Naming → Type 0
IsReached view n = page_for view (reached_as n.role) ≡ Some n.page

-- Namings of one page are in one role.
abbrev pub AreSingle : View → Type 0
AreSingle view = (n m : Naming) → In (namings view) n → In (namings view) m → n.page ≡ m.page → n.role ≡ m.role

along_role : (view : View) (n : Naming) (named : Role) → n.role ≡ named → page_for view (reached_as named) ≡ Some n.page → IsReached view n
along_role view n named e reached = ap (λ r. page_for view (reached_as r)) e ∙ reached

-- A naming of which the others of its page are in its role is the first.
pub first_of : (all : List Naming) (n : Naming) → In all n → ((m : Naming) → In all m → m.page ≡ n.page → n.role ≡ m.role) → is_first all n ≡ true
first_of all n i same =
    let found = find_some (is_of_page n.page) all n i (test_of_same n.page n.page refl) in
    let member = find_in (is_of_page n.page) all found.0 found.1 in
    ap (is_in_role n.role) found.1
    ∙ ap (is_same_role n.role) (sym (same found.0 member.0 (same_from_test _ _ member.1)))
    ∙ own_role n.role

module _ (view : View) where
  abbrev counted : List Naming
  counted = inventory_namings (header_of view)

  abbrev states : List Naming
  states = tip_namings (header_of view)

  abbrev pointers : List Naming
  pointers = pointer_namings (header_of view)

  pub from_inventories : (n : Naming) → In counted n → In (namings view) n
  from_inventories n i = inr (in_left (counted ++ states ++ pointers) (data_namings view) n (in_left (counted ++ states) pointers n (in_left counted states n i)))

  from_tips : (n : Naming) → In states n → In (namings view) n
  from_tips n i = inr (in_left (counted ++ states ++ pointers) (data_namings view) n (in_left (counted ++ states) pointers n (in_right counted states n i)))

  pub from_pointers : (n : Naming) → In pointers n → In (namings view) n
  from_pointers n i = inr (in_left (counted ++ states ++ pointers) (data_namings view) n (in_right (counted ++ states) pointers n i))

  pub from_data : (n : Naming) → In (data_namings view) n → In (namings view) n
  from_data n i = inr (in_right (counted ++ states ++ pointers) (data_namings view) n i)

  -- Where a naming stands in the walk.
  pub data Stands (n : Naming) : Type 0 where
    as_header : naming 0 role.Header ≡ n → Stands n
    as_inventory : In counted n → Stands n
    as_tip : In states n → Stands n
    as_pointer : In pointers n → Stands n
    as_data : In (data_namings view) n → Stands n

  pub stands_in : (n : Naming) → In (namings view) n → Stands n
  stands_in n (inl e) = as_header e
  stands_in n (inr i) = elim (in_either (counted ++ states ++ pointers) (data_namings view) n i) [
    | inr d ↦ as_data d
    | inl l ↦ elim (in_either (counted ++ states) pointers n l) [
      | inr p ↦ as_pointer p
      | inl m ↦ elim (in_either counted states n m) [ inl a ↦ as_inventory a | inr b ↦ as_tip b ]
    ]
  ]

  -- Without a header the header's page alone is named.
  none_named : (n : Naming) → header_of view ≡ None → Stands n → naming 0 role.Header ≡ n
  none_named n none (as_header e) = e
  none_named n none (as_inventory i) = absurd (let P : Option Header → Type 0 = λ o. In (inventory_namings o) n in subst P none i)
  none_named n none (as_tip i) = absurd (let P : Option Header → Type 0 = λ o. In (tip_namings o) n in subst P none i)
  none_named n none (as_pointer i) = absurd (let P : Option Header → Type 0 = λ o. In (pointer_namings o) n in subst P none i)
  none_named n none (as_data i) = absurd (let P : Option Header → Type 0 = λ o. In (flat_map (named_by view) (walked (pointer_namings o))) n in subst P none i)

  pub data_of_naming : ((h : Header) → header_of view ≡ Some h → HaveAllSlots view) → (n : Naming) → In (data_namings view) n → IsDataNaming view n
  data_of_naming all n i = go (header_of view) refl
    where
      go : (o : Option Header) → header_of view ≡ o → IsDataNaming view n
      go None none = absurd (let P : Option Header → Type 0 = λ o. In (flat_map (named_by view) (walked (pointer_namings o))) n in subst P none i)
      go (Some h) is = data_reached view h is (all h is) n i

  header_reached : (n : Naming) → naming 0 role.Header ≡ n → IsReached view n
  header_reached n e = let P : Naming → Type 0 = IsReached view in subst P e refl

  with_header : (h : Header) → header_of view ≡ Some h → HaveAllSlots view → (n : Naming) → Stands n → IsReached view n
  with_header h is all n (as_header e) = header_reached n e
  with_header h is all n (as_inventory i) = let found = inventory_reached view h is n i in along_role view n (role.Inventory found.0) found.1 found.2
  with_header h is all n (as_tip i) = let found = tip_reached view h is n i in along_role view n (role.Tip found.0) found.1 found.2
  with_header h is all n (as_pointer i) = let found = pointer_reached view h is n i in along_role view n (role.Pointer found.0 found.1) found.2 found.3
  with_header h is all n (as_data i) = let found = data_reached view h is all n i in along_role view n (role.Data found.relation found.sequence) found.role_is found.reached

  pub naming_reached : ((h : Header) → header_of view ≡ Some h → HaveAllSlots view) → (n : Naming) → In (namings view) n → IsReached view n
  naming_reached all n i = go (header_of view) refl
    where
      go : (o : Option Header) → header_of view ≡ o → IsReached view n
      go None none = header_reached n (none_named n none (stands_in n i))
      go (Some h) is = with_header h is (all h is) n (stands_in n i)

  -- A pointer page that the view reaches is walked, where namings of one page are in one role.
  walked_pointer : AreSingle view → (relation sequence page : ℕ) → In pointers (naming page (role.Pointer relation sequence)) → is_first pointers (naming page (role.Pointer relation sequence)) ≡ true
  walked_pointer single relation sequence page i =
      first_of pointers (naming page (role.Pointer relation sequence)) i
      (λ m j same. single (naming page (role.Pointer relation sequence)) m (from_pointers _ i) (from_pointers m j) (sym same))

  pub data_walked : AreSingle view → (relation sequence page : ℕ) → data_of view relation sequence ≡ Some page → In (data_namings view) (naming page (role.Data relation sequence))
  data_walked single relation sequence page e = go (header_of view) refl
    where
      go : (o : Option Header) → header_of view ≡ o → In (data_namings view) (naming page (role.Data relation sequence))
      go None none =
          let lost : pointer_of view relation (sequence / slots (size_of view)) ≡ None = ap (λ o. option_and_then (λ (x : Relation). slice_get x.pointers (sequence / slots (size_of view))) (option_and_then (λ (g : Header). slice_get g.relations relation) o)) none in
          let no_page : data_of view relation sequence ≡ None = ap (option_and_then (λ (p : ℕ). named_in (view p) (sequence % slots (size_of view)))) lost in
          let no : None ≡ Some page = sym no_page ∙ e in cc
      go (Some h) is = data_named view h is relation sequence page e (λ pointer there. walked_pointer single relation _ pointer (pointer_named view h is relation _ pointer there))

  pub reached_named : AreSingle view → (named : Role) (page : ℕ) → page_for view (reached_as named) ≡ Some page → In (namings view) (naming page named)
  reached_named single role.Header page e = inl (ap (λ p. naming p role.Header) (let same : 0 ≡ page = cc in same))
  reached_named single (role.Inventory s) page e = go (header_of view) refl
    where
      go : (o : Option Header) → header_of view ≡ o → In (namings view) (naming page (role.Inventory s))
      go None none = let no : None ≡ Some page = sym (ap (option_and_then (λ (g : Header). if nat_lt s g.inventories then Some (inventory_page g.size s) else None)) none) ∙ e in cc
      go (Some h) is = from_inventories _ (inventory_named view h is s page e)
  reached_named single (role.Tip s) page e = go (header_of view) refl
    where
      go : (o : Option Header) → header_of view ≡ o → In (namings view) (naming page (role.Tip s))
      go None none = let no : None ≡ Some page = sym (ap (option_and_then (λ (g : Header). slice_get g.tips s)) none) ∙ e in cc
      go (Some h) is = from_tips _ (tip_named view h is s page e)
  reached_named single (role.Pointer r k) page e = go (header_of view) refl
    where
      go : (o : Option Header) → header_of view ≡ o → In (namings view) (naming page (role.Pointer r k))
      go None none = let no : None ≡ Some page = sym (ap (λ o. option_and_then (λ (x : Relation). slice_get x.pointers k) (option_and_then (λ (g : Header). slice_get g.relations r) o)) none) ∙ e in cc
      go (Some h) is = from_pointers _ (pointer_named view h is r k page e)
  reached_named single (role.Data r s) page e = from_data _ (data_walked single r s page e)
