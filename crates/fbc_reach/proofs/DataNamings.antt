-- The namings of the pointer pages that are walked are data pages that the view reaches.
use Rattle.std.proofs.Common.{◌≡◌, ℕ, ◌+◌, ◌*◌, ◌/◌, ◌%◌, ◌<◌, ◌==◌, Bool, true, false, not, Option, Some, None, refl, sym, subst, ap, ◌∙◌, arith, slice_get, length, if◌then◌else◌}
use Rattle.std.specs.Option.{option_and_then}
use Rattle.std.proofs.lemmas.Nat.{div-mul-add, mod-mul-add, div-add-mod'}
use Rattle.std.proofs.lemmas.Option.{slice_get_within}
use Rattle.fbc_kinds.specs.declared.pages.Header.{Header}
use Rattle.fbc_kinds.specs.declared.pages.Pointer.{Pointer}
use Rattle.fbc_kinds.specs.declared.pages.Page.{Page}
use Rattle.fbc_kinds.specs.declared.pages.Page.TheVariants as kind
use Rattle.fbc_kinds.specs.Limits.{slots}
use Rattle.fbc_kinds.specs.View.{View, header_of, size_of, pointer_of, data_of, named_in, unless_zero}
use Rattle.fbc_reach.specs.declared.namings.Role.{Role}
use Rattle.fbc_reach.specs.declared.namings.Role.TheVariants as role
use Rattle.fbc_reach.specs.declared.namings.Naming.{Naming}
use Rattle.fbc_reach.specs.Walk.{naming, named_in_row, pointer_namings, is_first, walked, slots_of, names_a_page, slots_named, named_by, data_namings}
use Rattle.fbc_reach.proofs.Members.{In, in_row, row_in, in_filter, filter_in, in_flat_map, flat_map_in}
use Rattle.fbc_reach.proofs.HeaderNamings.{pointer_named, pointer_reached}

nonzero_named : (number page : ℕ) → unless_zero number ≡ Some page → (number ≡ page) × (not (page == 0) ≡ true)
nonzero_named number page e = go (number == 0) refl e
  where
    go : (b : Bool) → (number == 0) ≡ b → (if b then None else Some number) ≡ Some page → (number ≡ page) × (not (page == 0) ≡ true)
    go true is e = cc
    go false is e = let same : number ≡ page = cc in (same, ap not (sym (ap (λ n. n == 0) same) ∙ is))

-- A slot that names a page has its number.
slot_named : (o : Option Page) (slot page : ℕ) → named_in o slot ≡ Some page → (slice_get (slots_of o) slot ≡ Some page) × (not (page == 0) ≡ true)
slot_named (Some (kind.Pointer p)) slot page e = go (slice_get p.slots slot) refl e
  where
    go : (o : Option ℕ) → slice_get p.slots slot ≡ o → option_and_then unless_zero o ≡ Some page → (slice_get p.slots slot ≡ Some page) × (not (page == 0) ≡ true)
    go None is e = cc
    go (Some number) is e = let found = nonzero_named number page e in (is ∙ ap Some found.0, found.1)
slot_named _ slot page e = cc

zero_names_none : (page : ℕ) → not (page == 0) ≡ true → unless_zero page ≡ Some page
zero_names_none page e = go (page == 0) e
  where
    go : (b : Bool) → not b ≡ true → (if b then None else Some page) ≡ Some page
    go true e = cc
    go false e = refl

named_slot : (o : Option Page) (slot page : ℕ) → slice_get (slots_of o) slot ≡ Some page → not (page == 0) ≡ true → named_in o slot ≡ Some page
named_slot (Some (kind.Pointer p)) slot page e names = ap (option_and_then unless_zero) e ∙ zero_names_none page names
named_slot None slot page e names = cc
named_slot (Some (kind.Header h)) slot page e names = cc
named_slot (Some (kind.Inventory i)) slot page e names = cc
named_slot (Some (kind.Tip t)) slot page e names = cc
named_slot (Some (kind.Data d)) slot page e names = cc
named_slot (Some kind.Blank) slot page e names = cc

-- A pointer page of the view has all its slots.
abbrev pub HaveAllSlots : View → Type 0
HaveAllSlots view = (page : ℕ) (p : Pointer) → view page ≡ Some (kind.Pointer p) → length p.slots ≡ slots (size_of view)

slot_below : (count : ℕ) (o : Option Page) (slot page : ℕ) → ((p : Pointer) → o ≡ Some (kind.Pointer p) → length p.slots ≡ count) → slice_get (slots_of o) slot ≡ Some page → slot < count
slot_below count (Some (kind.Pointer p)) slot page all e = let within = slice_get_within p.slots slot page e in let full = all p refl in omega arith
slot_below count None slot page all e = cc
slot_below count (Some (kind.Header h)) slot page all e = cc
slot_below count (Some (kind.Inventory i)) slot page all e = cc
slot_below count (Some (kind.Tip t)) slot page all e = cc
slot_below count (Some (kind.Data d)) slot page all e = cc
slot_below count (Some kind.Blank) slot page all e = cc

-- What a data naming stands on.
pub record IsDataNaming (view : View) (n : Naming) : Type 0 where
  pub relation : ℕ
  pub sequence : ℕ
  pub role_is : n.role ≡ role.Data relation sequence
  pub reached : data_of view relation sequence ≡ Some n.page

module _ (view : View) (h : Header) (is : header_of view ≡ Some h) where
  pub data_reached : HaveAllSlots view → (n : Naming) → In (data_namings view) n → IsDataNaming view n
  data_reached all n i =
      let from = flat_map_in (named_by view) (walked (pointer_namings (header_of view))) n i in
      let pointer : Naming = from.0 in
      let known = pointer_reached view h is pointer (filter_in (is_first (pointer_namings (header_of view))) (pointer_namings (header_of view)) pointer from.1).0 in
      let P : Role → Type 0 = λ named. In (slots_named (size_of view) (view pointer.page) named) n in
      let row = filter_in names_a_page (named_in_row (role.Data known.0) (known.1 * slots (size_of view)) (slots_of (view pointer.page))) n (subst P known.2 from.2) in
      let found = row_in (role.Data known.0) (known.1 * slots (size_of view)) (slots_of (view pointer.page)) n row.0 in
      let below : found.at < slots (size_of view) = slot_below (slots (size_of view)) (view pointer.page) found.at n.page (all pointer.page) found.stands in
      let s : ℕ = known.1 * slots (size_of view) + found.at in
      let quotient : s / slots (size_of view) ≡ known.1 = div-mul-add known.1 (slots (size_of view)) found.at below in
      let remainder : s % slots (size_of view) ≡ found.at = mod-mul-add known.1 (slots (size_of view)) found.at below in
      let there : pointer_of view known.0 (s / slots (size_of view)) ≡ Some pointer.page = ap (pointer_of view known.0) quotient ∙ known.3 in
      record {
        relation = known.0;
        sequence = s;
        role_is = found.role_is;
        reached =
            ap (option_and_then (λ (p : ℕ). named_in (view p) (s % slots (size_of view)))) there
            ∙ ap (named_in (view pointer.page)) remainder
            ∙ named_slot (view pointer.page) found.at n.page found.stands row.1;
      }

  pub data_named : (relation sequence page : ℕ) → data_of view relation sequence ≡ Some page
      → ((pointer : ℕ) → pointer_of view relation (sequence / slots (size_of view)) ≡ Some pointer → is_first (pointer_namings (header_of view)) (naming pointer (role.Pointer relation (sequence / slots (size_of view)))) ≡ true)
      → In (data_namings view) (naming page (role.Data relation sequence))
  data_named relation sequence page e first = go (pointer_of view relation (sequence / slots (size_of view))) refl e
    where
      go : (o : Option ℕ) → pointer_of view relation (sequence / slots (size_of view)) ≡ o
          → option_and_then (λ (p : ℕ). named_in (view p) (sequence % slots (size_of view))) o ≡ Some page
          → In (data_namings view) (naming page (role.Data relation sequence))
      go None there e = cc
      go (Some pointer) there e =
          let q : ℕ = slots (size_of view) in
          let k : ℕ = sequence / q in
          let np : Naming = naming pointer (role.Pointer relation k) in
          let found = slot_named (view pointer) (sequence % q) page e in
          let whole : k * q + sequence % q ≡ sequence = div-add-mod' sequence q in
          let P : ℕ → Type 0 = λ s. In (named_in_row (role.Data relation) (k * q) (slots_of (view pointer))) (naming page (role.Data relation s)) in
          let row = subst P whole (in_row (role.Data relation) (k * q) (slots_of (view pointer)) (sequence % q) page found.0) in
          let slot = in_filter names_a_page (named_in_row (role.Data relation) (k * q) (slots_of (view pointer))) (naming page (role.Data relation sequence)) row found.1 in
          in_flat_map (named_by view) (walked (pointer_namings (header_of view))) np (naming page (role.Data relation sequence))
          (in_filter (is_first (pointer_namings (header_of view))) (pointer_namings (header_of view)) np (pointer_named view h is relation k pointer there) (first pointer there))
          slot
