-- The pages of a new file are within their limits.
use Rattle.std.proofs.Common.{◌≡◌, ◌+◌, ◌-◌, ◌%◌, ◌<◌, ◌≤◌, ◌++◌, ℕ, zero, suc, Bool, true, false, List, [], ◌∷◌, length, map, Some, refl, sym, ap, ◌∙◌, inl, inr, arith, lit<, lit≤, subst}
use Rattle.std.specs.Prelude.{replicate, slice_get, slice_index_or}
use Rattle.std.specs.List.{All, range_with_len}
use Rattle.std.proofs.lemmas.Bool.{cases_lt}
use Rattle.std.proofs.lemmas.Bool.Decides.{nat_tests}
use Rattle.std.proofs.lemmas.Grind.{common_steps}
use Rattle.std.proofs.lemmas.List.{get_or-replicate, get_or_append_left, get_or_past, length-append, length-replicate}
use Rattle.std.proofs.lemmas.List.Elements.{All-replicate}
use Rattle.std.proofs.lemmas.List.FromFn.{get_or-map-range_with_len, length-map-range_with_len}
use Rattle.std.proofs.lemmas.Option.{get_or_from_slice_get, slice_get-get_or, slice_get_within}
use Rattle.fbc_kinds.specs.declared.pages.Page.TheVariants as kind
use Rattle.fbc_kinds.specs.declared.pages.Relation.{Relation}
use Rattle.fbc_kinds.specs.declared.pages.State.{State}
use Rattle.fbc_kinds.specs.declared.pages.State.TheVariants.{Active, Limbo}
use Rattle.fbc_kinds.specs.File.{stands_under}
use Rattle.fbc_kinds.specs.HeaderSpelling.{ArePageNumbers, HaveOwnNames, IsHeader, IsRelation}
use Rattle.fbc_kinds.specs.InventorySpelling.{IsInventory}
use Rattle.fbc_kinds.specs.Limits.{IsPageSize, inventory_bits, number_limit, slots, tip_numbers}
use Rattle.fbc_kinds.specs.PointerSpelling.{IsPointer}
use Rattle.fbc_kinds.specs.TipSpelling.{IsTip}
use Rattle.fbc_files.specs.declared.relations.NewRelation.{NewRelation}
use Rattle.fbc_files.specs.Creating.{AreNewPages, IsNewPage}
use Rattle.fbc_files.specs.NewPages.{AreNewRelations, active_states, empty_slots, new_entries, new_header, new_inventory, new_pages, new_pointer, new_tip, page_count, pointer_page, taken_first}
use Rattle.fbc_files.proofs.NewEntries.{entry, length-new_entries, new_entry_at}
use Rattle.fbc_files.proofs.Recognition.{long_page}

pub length-active_states : (count : ℕ) → length (active_states count) ≡ count
unfolding active_states
length-active_states count = length-replicate count Active

pub length-empty_slots : (count : ℕ) → length (empty_slots count) ≡ count
unfolding empty_slots
length-empty_slots count = length-replicate count 0

pub length-taken_first : (taken free : ℕ) → length (taken_first taken free) ≡ taken + free
unfolding taken_first
length-taken_first taken free = grind (arith, common_steps)

-- Every state is that of a transaction that is not over.
pub each_active : (count place : ℕ) (state : State) → slice_get (active_states count) place ≡ Some state → state ≡ Active
unfolding active_states
each_active count place state at =
    let within : place < count = omega (arith, slice_get_within (replicate count Active) place state at, length-replicate count Active) in
    sym (get_or_from_slice_get (replicate count Active) place state Active at) ∙ get_or-replicate count place Active Active within

-- Every slot names nothing.
pub each_empty : (count slot number : ℕ) → slice_get (empty_slots count) slot ≡ Some number → number ≡ 0
unfolding empty_slots
each_empty count slot number at =
    let within : slot < count = omega (arith, slice_get_within (replicate count 0) slot number at, length-replicate {A = ℕ} count 0) in
    sym (get_or_from_slice_get (replicate count 0) slot number 0 at) ∙ get_or-replicate count slot 0 0 within

-- The first pages are taken.
pub first_taken : (taken free i : ℕ) → i < taken → slice_get (taken_first taken free) i ≡ Some true
unfolding taken_first
first_taken taken free i within =
    let marks : List Bool = replicate taken true in
    let front : i < length marks = omega (arith, length-replicate taken true, within) in
    slice_get-get_or (marks ++ replicate free false) i true (omega (arith, length-append marks (replicate free false), front))
    ∙ ap Some (get_or_append_left marks (replicate free false) true i front ∙ get_or-replicate taken i true true within)

pub first_active : (count : ℕ) → 0 < count → slice_get (active_states count) 0 ≡ Some Active
unfolding active_states
first_active count some = grind (arith, common_steps)

slots_fit : (count : ℕ) → All (λ number. number < number_limit) (empty_slots count)
unfolding empty_slots
slots_fit count = All-replicate (λ number. number < number_limit) count 0 (lit< tt)

pub IsTip-new : (size : ℕ) → IsPageSize size → IsTip size (new_tip size)
IsTip-new size sized = record {
  page = lit< tt;
  sequence = lit< tt;
  count = length-active_states (tip_numbers size);
  zero = λ _. first_active (tip_numbers size) (omega (arith, long_page size sized));
  state = λ i limbo. let same = each_active (tip_numbers size) i Limbo limbo in cc;
}

pub IsPointer-new : (size relation : ℕ) → relation < 8 → IsPointer size (new_pointer size relation)
IsPointer-new size relation few = record {
  page_fits = omega arith;
  sequence_fits = lit< tt;
  relation_fits = few;
  count = length-empty_slots (slots size);
  slots_fit = slots_fit (slots size);
}

-- Page 1 has its own mark.
own_mark : (size : ℕ) → IsPageSize size → 1 % inventory_bits size ≡ 1
own_mark size (inl is) = rw is refl
own_mark size (inr (inl is)) = rw is refl
own_mark size (inr (inr (inl is))) = rw is refl
own_mark size (inr (inr (inr (inl is)))) = rw is refl
own_mark size (inr (inr (inr (inr is)))) = rw is refl

pub IsInventory-new : (size count : ℕ) → IsPageSize size → 2 ≤ count → count ≤ 11 → IsInventory size (new_inventory size count)
IsInventory-new size count sized from to = record {
  page = lit< tt;
  sequence = lit< tt;
  count = length-taken_first count (inventory_bits size - count) ∙ omega (arith, long_page size sized);
  own = λ _. ap (slice_get (taken_first count (inventory_bits size - count))) (own_mark size sized) ∙ first_taken count (inventory_bits size - count) 1 (omega arith);
  header = λ _. first_taken count (inventory_bits size - count) 0 (omega arith);
}

one_page : (page : ℕ) → 0 < page → page < number_limit → ArePageNumbers (page ∷ [])
one_page page some below zero within = record { names = some; below = below }
one_page page some below (suc i) within = let no : ⊥ = omega (arith, within) in absurd no

pub length-new_pages : (size : ℕ) (relations : List NewRelation) → length (new_pages size relations) ≡ page_count relations
length-new_pages size relations = omega (arith, length-map-range_with_len (pointer_page size) 0 (length relations))

module _ (size : ℕ) (relations : List NewRelation) (sized : IsPageSize size) (are : AreNewRelations relations) where
  IsRelation-new : (i : ℕ) (r : Relation) → slice_get (new_entries 3 relations) i ≡ Some r → IsRelation r
  IsRelation-new i r at =
      let its = new_entry_at 3 relations i r at in
      let fits = are.each i its.relation its.found in
      let below : i < 8 = omega (arith, slice_get_within relations i its.relation its.found, are.few) in
      let made : IsRelation (entry (3 + i) its.relation) = record {
        name = fits.name;
        value_from = fits.value_from;
        value_to = fits.value_to;
        pointers_from = lit≤ tt;
        pointers_to = lit≤ tt;
        pointers = one_page (3 + i) (omega arith) (omega arith);
      } in
      subst IsRelation its.is made

  HaveOwnNames-new : HaveOwnNames (new_entries 3 relations)
  HaveOwnNames-new i j r s at at' same =
      let one = new_entry_at 3 relations i r at in
      let other = new_entry_at 3 relations j s at' in
      are.own_names i j one.relation other.relation one.found other.found
      (ap (λ (e : Relation). e.name) one.is ∙ same ∙ sym (ap (λ (e : Relation). e.name) other.is))

  pub IsHeader-new : IsHeader size (new_header size relations)
  IsHeader-new =
      let long = long_page size sized in
      let count = length-new_entries 3 relations in
      record {
        page_size = refl;
        next_from = lit≤ tt;
        next_to = omega arith;
        next_stands = omega arith;
        relations_from = omega (arith, count, are.some);
        relations_to = omega (arith, count, are.few);
        inventories_from = lit≤ tt;
        inventories_to = lit≤ tt;
        tips_from = lit≤ tt;
        tips_to = lit≤ tt;
        relations = IsRelation-new;
        names = HaveOwnNames-new;
        tips = one_page 2 (lit< tt) (lit< tt);
        oldest = refl;
      }

  -- The page of a number behind the first three.
  pub pointer_at : (k : ℕ) → k < length relations → slice_index_or (map (pointer_page size) (range_with_len 0 (length relations))) k kind.Blank ≡ pointer_page size k
  pointer_at k below = get_or-map-range_with_len (pointer_page size) 0 (length relations) k k kind.Blank below (omega arith)

  pub pointer_past : (k : ℕ) → length relations ≤ k → slice_index_or (map (pointer_page size) (range_with_len 0 (length relations))) k kind.Blank ≡ kind.Blank
  pointer_past k past = get_or_past (map (pointer_page size) (range_with_len 0 (length relations))) k kind.Blank (omega (arith, length-map-range_with_len (pointer_page size) 0 (length relations)))

  IsNewPage-new : (number : ℕ) → IsNewPage size (slice_index_or (new_pages size relations) number kind.Blank)
  IsNewPage-new zero = IsHeader-new
  IsNewPage-new (suc zero) = IsInventory-new size (page_count relations) sized (omega arith) (omega (arith, are.few))
  IsNewPage-new (suc (suc zero)) = IsTip-new size sized
  IsNewPage-new (suc (suc (suc k))) = elim (cases_lt k (length relations)) [
    | inl below ↦ subst (IsNewPage size) (sym (pointer_at k below)) (IsPointer-new size k (omega (arith, are.few)))
    | inr past ↦ subst (IsNewPage size) (sym (pointer_past k past)) tt
  ]

  stands-new : (number : ℕ) → stands_under number (slice_index_or (new_pages size relations) number kind.Blank) ≡ true
  stands-new zero = refl
  stands-new (suc zero) = refl
  stands-new (suc (suc zero)) = refl
  stands-new (suc (suc (suc k))) = elim (cases_lt k (length relations)) [
    | inl below ↦ ap (stands_under (suc (suc (suc k)))) (pointer_at k below) ∙ grind (arith, nat_tests)
    | inr past ↦ ap (stands_under (suc (suc (suc k)))) (pointer_past k past)
  ]

  pub AreNewPages-new : AreNewPages size (new_pages size relations)
  AreNewPages-new = record {
    some = omega (arith, length-new_pages size relations);
    few = omega (arith, length-new_pages size relations, are.few);
    fits = IsNewPage-new;
    stands = stands-new;
  }
