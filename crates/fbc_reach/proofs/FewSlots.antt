-- Pages that were kept have at most as many slots as the greatest, and pointer pages are few.
use Rattle.std.proofs.Common.{◌≡◌, ℕ, zero, suc, ◌<◌, ◌≤◌, List, [], ◌∷◌, ◌++◌, length, slice_get, Option, Some, None, ◌⊎◌, inl, inr, sym, subst, arith}
use Rattle.std.proofs.lemmas.Option.{slice_get_within}
use Rattle.fbc_kinds.specs.HeaderSpelling.{IsHeader}
use Rattle.fbc_kinds.specs.Limits.{IsPageSize, pointer_limit, slots}
use Rattle.fbc_kinds.specs.View.{inventory_page}
use Rattle.fbc_kinds.specs.declared.pages.Header.{Header}
use Rattle.fbc_kinds.specs.declared.shapes.Shape.{Shape}
use Rattle.fbc_reach.specs.Content.{HasAllSlots, IsReadOf}
use Rattle.fbc_reach.specs.Tally.{IsKept, HasFewSlots, KeepsFewSlots, HasFewPlaces}
use Rattle.fbc_reach.specs.Walk.{naming, inventories_named, inventory_namings, tip_namings, pointer_namings}
use Rattle.fbc_reach.specs.declared.content.Content.{Content}
use Rattle.fbc_reach.specs.declared.content.Content.TheVariants as content
use Rattle.fbc_reach.specs.declared.content.PageRead.{PageRead}
use Rattle.fbc_reach.specs.declared.namings.Naming.{Naming}
use Rattle.fbc_reach.specs.declared.namings.Role.TheVariants as role
use Rattle.fbc_reach.specs.declared.tally.NamedPage.{NamedPage}
use Rattle.fbc_reach.proofs.HeaderNamings.{pointers_in}
use Rattle.fbc_reach.proofs.Members.{In, in_either, row_in}

few_slots : (size : ℕ) → IsPageSize size → slots size ≤ 4092
few_slots size is = grind arith

few_content : (size : ℕ) → IsPageSize size → (c : Content) → HasAllSlots size c → HasFewSlots c
few_content size is (content.Pointer r s pages) full = let few = few_slots size is in omega arith
few_content size is (content.Inventory s taken) full = tt
few_content size is (content.Tip s states) full = tt
few_content size is (content.Data r s versions) full = tt
few_content size is content.Other full = tt

full_read : (shape : Shape) (page : ℕ) (file : Option (List ℕ)) (read : PageRead) → IsReadOf shape page file read → HasAllSlots shape.size read.content
full_read shape page None read is = is.1.full
full_read shape page (Some bytes) read is = is.full

pub few_kept : (shape : Shape) (file : Option (List ℕ)) (next : ℕ) (done : List Naming) (page : ℕ) (o : Option NamedPage) → IsPageSize shape.size
    → IsKept shape file next done page o → KeepsFewSlots o
few_kept shape file next done page None size kept = tt
few_kept shape file next done page (Some named) size kept = few_content shape.size size named.read.content (full_read shape page file named.read kept.read)

in_get : (xs : List Naming) (i : ℕ) (n : Naming) → slice_get xs i ≡ Some n → In xs n
in_get [] i n e = cc
in_get (x ∷ xs) zero n e = let same : x ≡ n = cc in inl same
in_get (x ∷ xs) (suc i) n e = inr (in_get xs i n e)

few_of_one : (m n : Naming) → HasFewPlaces m.role → m ≡ n → HasFewPlaces n.role
few_of_one m n few e = let P : Naming → Type 0 = λ x. HasFewPlaces x.role in subst P e few

inventories_few : (size count : ℕ) (n : Naming) → In (inventories_named size count) n → HasFewPlaces n.role
inventories_few size zero n i = absurd i
inventories_few size (suc count) n i = go (in_either (inventories_named size count) _ n i) (inventories_few size count n)
  where
    go : In (inventories_named size count) n ⊎ In (naming (inventory_page size count) (role.Inventory count) ∷ []) n
        → (In (inventories_named size count) n → HasFewPlaces n.role) → HasFewPlaces n.role
    go (inl l) before = before l
    go (inr (inl e)) before = few_of_one (naming (inventory_page size count) (role.Inventory count)) n tt e
    go (inr (inr none)) before = absurd none

few_named : (h : Header) → IsHeader h.size h → (n : Naming) → In (inventory_namings (Some h) ++ tip_namings (Some h) ++ pointer_namings (Some h)) n → HasFewPlaces n.role
few_named h is n i = go (in_either (inventory_namings (Some h) ++ tip_namings (Some h)) _ n i)
  where
    front : In (inventory_namings (Some h)) n ⊎ In (tip_namings (Some h)) n → HasFewPlaces n.role
    front (inl l) = inventories_few h.size h.inventories n l
    front (inr r) = let found = row_in role.Tip 0 h.tips n r in subst HasFewPlaces (sym found.role_is) tt

    go : In (inventory_namings (Some h) ++ tip_namings (Some h)) n ⊎ In (pointer_namings (Some h)) n → HasFewPlaces n.role
    go (inl l) = front (in_either (inventory_namings (Some h)) _ n l)
    go (inr r) =
        let found = pointers_in 0 h.relations n r in
        let within : found.sequence < length found.relation.pointers = slice_get_within found.relation.pointers found.sequence n.page found.stands in
        let limit : length found.relation.pointers ≤ pointer_limit = (is.relations found.place found.relation found.has).pointers_to in
        let below : found.sequence < pointer_limit = omega arith in
        subst HasFewPlaces (sym found.role_is) below

-- The namings of a header have few places.
pub few_places : (h : Header) → IsHeader h.size h → (named : List Naming) → named ≡ inventory_namings (Some h) ++ tip_namings (Some h) ++ pointer_namings (Some h)
    → (i : ℕ) (n : Naming) → slice_get named i ≡ Some n → HasFewPlaces n.role
few_places h is named same i n e =
    let P : List Naming → Type 0 = λ all. In all n in
    few_named h is n (subst P same (in_get named i n e))
