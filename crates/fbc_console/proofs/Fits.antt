-- The pages of the fresh file, and those that commit writes, are within their limits.
use Rattle.std.proofs.Common.{◌≡◌, ◌≢◌, ◌<◌, ◌≤◌, ◌+◌, ◌-◌, ◌++◌, ℕ, zero, suc, List, [], ◌∷◌, Bool, true, false, length, slice_set, slice_get, slice_index_or, Some, refl, ap, sym, ◌∙◌, arith, lit<, lit≤, subst, length-append}
use Rattle.std.specs.Prelude.{map, replicate}
use Rattle.std.specs.List.{All}
use Rattle.std.proofs.lemmas.Grind.{common_steps}
use Rattle.std.proofs.lemmas.List.{length-set, length-replicate, get_or_append_left, get_or-replicate}
use Rattle.std.proofs.lemmas.List.Elements.{All-replicate, All-append, All-map, All-set}
use Rattle.std.proofs.lemmas.Option.{slice_get_within, get_or_from_slice_get, slice_get-get_or}
use Rattle.fbc_kinds.specs.declared.pages.State.{State}
use Rattle.fbc_kinds.specs.declared.pages.State.TheVariants.{Active, Limbo, Committed}
use Rattle.fbc_kinds.specs.declared.pages.Relation.{Relation}
use Rattle.fbc_kinds.specs.declared.pages.Tip.{Tip}
use Rattle.fbc_kinds.specs.declared.pages.Pointer.{Pointer}
use Rattle.fbc_kinds.specs.declared.pages.Inventory.{Inventory}
use Rattle.fbc_kinds.specs.Limits.{number_limit}
use Rattle.fbc_kinds.specs.HeaderSpelling.{IsHeader, IsRelation, ArePageNumbers, HaveOwnNames}
use Rattle.fbc_kinds.specs.InventorySpelling.{IsInventory}
use Rattle.fbc_kinds.specs.TipSpelling.{IsTip}
use Rattle.fbc_kinds.specs.PointerSpelling.{IsPointer}
use Rattle.fbc_kinds.specs.DataSpelling.{IsData, IsCell, empty_cell}
use Rattle.fbc_files.specs.NewPages.{taken_first, active_states, empty_slots}
use Rattle.fbc_files.proofs.NewFits.{first_active, first_taken, length-active_states, length-empty_slots, length-taken_first}
use Rattle.fbc_console.specs.FreshFile.{fresh_relation, fresh_header, fresh_inventory, fresh_tip, fresh_pointer, begun_header, filled_inventory, committed_tip, filled_pointer, filled_data, cells_of, inserted_cell}
use Rattle.fbc_console.specs.StoredPages.{IsShortValue}
use Rattle.fbc_console.proofs.CellLemmas.{length-cells_of}

-- No state is the one between the parts of a commit.
abbrev NoLimbo : List State → Type 0
NoLimbo states = All (λ state. state ≢ Limbo) states

unfolds : (states : List State) → NoLimbo states → (i : ℕ) → slice_get states i ≢ Some Limbo
unfolds states none i is = none i Limbo (slice_get_within states i Limbo is) (get_or_from_slice_get states i Limbo Limbo is)

none_active : (count : ℕ) → NoLimbo (active_states count)
unfolding active_states
none_active count = All-replicate (λ state. state ≢ Limbo) count Active (λ e. cc)

none_committed : (count : ℕ) → NoLimbo (slice_set (active_states count) 1 Committed)
none_committed count = All-set (λ state. state ≢ Limbo) (active_states count) 1 Committed (λ e. cc) (none_active count)

first_stays : (states : List State) → 1 < length states → slice_get states 0 ≡ Some Active → slice_get (slice_set states 1 Committed) 0 ≡ Some Active
first_stays (a ∷ b ∷ states) two is = is
first_stays (a ∷ []) two is = let no : ⊥ = omega (arith, two) in absurd no
first_stays [] two is = let no : ⊥ = omega (arith, two) in absurd no

pub IsTip-fresh : IsTip 1024 fresh_tip
IsTip-fresh = record {
  page = lit< tt;
  sequence = lit< tt;
  count = length-active_states 4032;
  zero = λ _. first_active 4032 (lit< tt);
  state = unfolds (active_states 4032) (none_active 4032);
}

pub IsTip-committed : IsTip 1024 committed_tip
IsTip-committed = record {
  page = lit< tt;
  sequence = lit< tt;
  count = length-set (active_states 4032) 1 Committed ∙ length-active_states 4032;
  zero = λ _. first_stays (active_states 4032) (two 4032 (lit< tt)) (first_active 4032 (lit< tt));
  state = unfolds (slice_set (active_states 4032) 1 Committed) (none_committed 4032);
}
  where
    two : (count : ℕ) → 1 < count → 1 < length (active_states count)
    two count more = omega (arith, length-active_states count, more)

-- A mark stays set when another one is set.
pub slice_get-set_true : (marks : List Bool) (i j : ℕ) → slice_get marks j ≡ Some true → slice_get (slice_set marks i true) j ≡ Some true
slice_get-set_true marks i j is =
    let within : j < length marks = slice_get_within marks j true is in
    slice_get-get_or (slice_set marks i true) j true (omega (arith, length-set marks i true, within)) ∙ ap Some (either marks i j is (get_or_from_slice_get marks j true true is))
  where
    either : (marks : List Bool) (i j : ℕ) → slice_get marks j ≡ Some true → slice_index_or marks j true ≡ true → slice_index_or (slice_set marks i true) j true ≡ true
    either marks i j is held = grind (arith, common_steps, held)

pub IsInventory-fresh : IsInventory 1024 fresh_inventory
IsInventory-fresh = record {
  page = lit< tt;
  sequence = lit< tt;
  count = length-taken_first 4 8060;
  own = λ _. first_taken 4 8060 1 (lit< tt);
  header = λ _. first_taken 4 8060 0 (lit< tt);
}

pub IsInventory-filled : IsInventory 1024 filled_inventory
IsInventory-filled = record {
  page = lit< tt;
  sequence = lit< tt;
  count = length-set (taken_first 4 8060) 4 true ∙ length-taken_first 4 8060;
  own = λ _. slice_get-set_true (taken_first 4 8060) 4 1 (first_taken 4 8060 1 (lit< tt));
  header = λ _. slice_get-set_true (taken_first 4 8060) 4 0 (first_taken 4 8060 0 (lit< tt));
}

slots_fit : (count : ℕ) → All (λ number. number < number_limit) (empty_slots count)
unfolding empty_slots
slots_fit count = All-replicate (λ number. number < number_limit) count 0 (lit< tt)

pub IsPointer-fresh : IsPointer 1024 fresh_pointer
IsPointer-fresh = record {
  page_fits = lit< tt;
  sequence_fits = lit< tt;
  relation_fits = lit< tt;
  count = length-empty_slots 252;
  slots_fit = slots_fit 252;
}

pub IsPointer-filled : IsPointer 1024 filled_pointer
IsPointer-filled = record {
  page_fits = lit< tt;
  sequence_fits = lit< tt;
  relation_fits = lit< tt;
  count = length-set (empty_slots 252) 0 4 ∙ length-empty_slots 252;
  slots_fit = All-set (λ number. number < number_limit) (empty_slots 252) 0 4 (lit< tt) (slots_fit 252);
}

pages-one : (page : ℕ) → 0 < page → page < number_limit → ArePageNumbers (page ∷ [])
pages-one page some below zero within = record { names = some; below = below }
pages-one page some below (suc i) within = let no : ⊥ = omega (arith, within) in absurd no

relation_fits : IsRelation fresh_relation
relation_fits = record {
  name = refl;
  value_from = lit≤ tt;
  value_to = lit≤ tt;
  pointers_from = lit≤ tt;
  pointers_to = lit≤ tt;
  pointers = pages-one 3 (lit< tt) (lit< tt);
}

relations-one : (i : ℕ) (r : Relation) → slice_get (fresh_relation ∷ []) i ≡ Some r → IsRelation r
relations-one zero r is = let e : fresh_relation ≡ r = cc in subst IsRelation e relation_fits
relations-one (suc i) r is = let no : ⊥ = omega (arith, slice_get_within (fresh_relation ∷ []) (suc i) r is) in absurd no

names-one : HaveOwnNames (fresh_relation ∷ [])
names-one i j r s one other same = omega (arith, slice_get_within (fresh_relation ∷ []) i r one, slice_get_within (fresh_relation ∷ []) j s other)

pub IsHeader-fresh : IsHeader 1024 fresh_header
IsHeader-fresh = record {
  page_size = refl;
  next_from = lit≤ tt;
  next_to = lit≤ tt;
  next_stands = lit≤ tt;
  relations_from = lit≤ tt;
  relations_to = lit≤ tt;
  inventories_from = lit≤ tt;
  inventories_to = lit≤ tt;
  tips_from = lit≤ tt;
  tips_to = lit≤ tt;
  relations = relations-one;
  names = names-one;
  tips = pages-one 2 (lit< tt) (lit< tt);
  oldest = refl;
}

pub IsHeader-begun : IsHeader 1024 begun_header
IsHeader-begun = record {
  page_size = refl;
  next_from = lit≤ tt;
  next_to = lit≤ tt;
  next_stands = lit≤ tt;
  relations_from = lit≤ tt;
  relations_to = lit≤ tt;
  inventories_from = lit≤ tt;
  inventories_to = lit≤ tt;
  tips_from = lit≤ tt;
  tips_to = lit≤ tt;
  relations = relations-one;
  names = names-one;
  tips = pages-one 2 (lit< tt) (lit< tt);
  oldest = refl;
}

cell_fits : (value : List ℕ) → IsShortValue value → IsCell 10 (inserted_cell value)
cell_fits value short =
    (record { numbered = lit< tt; number_fits = lit< tt; back_page_fits = lit< tt; back_cell_fits = lit< tt; back = λ _. refl }, short.some, short.few)

cells_fit : (count : ℕ) (values : List (List ℕ)) → All IsShortValue values → All (IsCell 10) (cells_of count values)
unfolding cells_of
cells_fit count values short =
    All-append (IsCell 10) (map inserted_cell values) (replicate (count - length values) empty_cell)
    (All-map (IsCell 10) inserted_cell values (λ k d within. cell_fits (slice_index_or values k d) (short k d within)))
    (All-replicate (IsCell 10) (count - length values) empty_cell refl)

pub IsData-filled : (values : List (List ℕ)) → length values ≤ 45 → All IsShortValue values → IsData 1024 10 (filled_data values)
IsData-filled values room short = record {
  page_fits = lit< tt;
  sequence_fits = lit< tt;
  relation_fits = lit< tt;
  count = length-cells_of 45 values room;
  each = cells_fit 45 values short;
}

pub IsTip-from : (states : List State) → states ≡ active_states 4032 → IsTip 1024 (record { page = 2; sequence = 0; states = states })
IsTip-from states are = subst (IsTip 1024) (sym (ap {A = List State} {B = Tip} (λ s. record { page = 2; sequence = 0; states = s }) are)) IsTip-fresh

pub IsPointer-from : (slots : List ℕ) → slots ≡ empty_slots 252 → IsPointer 1024 (record { page = 3; relation = 0; sequence = 0; slots = slots })
IsPointer-from slots are = subst (IsPointer 1024) (sym (ap {A = List ℕ} {B = Pointer} (λ s. record { page = 3; relation = 0; sequence = 0; slots = s }) are)) IsPointer-fresh

pub IsInventory-from : (taken : List Bool) → taken ≡ taken_first 4 8060 → IsInventory 1024 (record { page = 1; sequence = 0; taken = taken })
IsInventory-from taken are = subst (IsInventory 1024) (sym (ap {A = List Bool} {B = Inventory} (λ s. record { page = 1; sequence = 0; taken = s }) are)) IsInventory-fresh

pub states_beyond : (tip : Tip) → tip ≡ fresh_tip → 1 < length tip.states
states_beyond tip is = let count : length tip.states ≡ 4032 = ap (λ t. length t.states) is ∙ length-active_states 4032 in omega (arith, count)

pub marks_beyond : (inventory : Inventory) → inventory ≡ fresh_inventory → 4 < length inventory.taken
marks_beyond inventory is = let count : length inventory.taken ≡ 8064 = ap (λ i. length i.taken) is ∙ length-taken_first 4 8060 in omega (arith, count)

pub slots_beyond : (pointer : Pointer) → pointer ≡ fresh_pointer → 0 < length pointer.slots
slots_beyond pointer is = let count : length pointer.slots ≡ 252 = ap (λ p. length p.slots) is ∙ length-empty_slots 252 in omega (arith, count)

pub IsTip-committed_from : (tip : Tip) (states : List State) → tip ≡ fresh_tip → states ≡ slice_set tip.states 1 Committed → IsTip 1024 (record { page = tip.page; sequence = tip.sequence; states = states })
IsTip-committed_from tip states is set =
    let e : record { page = tip.page; sequence = tip.sequence; states = states } ≡ committed_tip =
    ap {A = List State} {B = Tip} (λ s. record { page = tip.page; sequence = tip.sequence; states = s }) set
    ∙ ap {A = Tip} {B = Tip} (λ t. record { page = t.page; sequence = t.sequence; states = slice_set t.states 1 Committed }) is in
    subst (IsTip 1024) (sym e) IsTip-committed

pub IsInventory-filled_from : (inventory : Inventory) (taken : List Bool) → inventory ≡ fresh_inventory → taken ≡ slice_set inventory.taken 4 true → IsInventory 1024 (record { page = inventory.page; sequence = inventory.sequence; taken = taken })
IsInventory-filled_from inventory taken is set =
    let e : record { page = inventory.page; sequence = inventory.sequence; taken = taken } ≡ filled_inventory =
    ap {A = List Bool} {B = Inventory} (λ s. record { page = inventory.page; sequence = inventory.sequence; taken = s }) set
    ∙ ap {A = Inventory} {B = Inventory} (λ i. record { page = i.page; sequence = i.sequence; taken = slice_set i.taken 4 true }) is in
    subst (IsInventory 1024) (sym e) IsInventory-filled

pub IsPointer-filled_from : (pointer : Pointer) (slots : List ℕ) → pointer ≡ fresh_pointer → slots ≡ slice_set pointer.slots 0 4 → IsPointer 1024 (record { page = pointer.page; relation = pointer.relation; sequence = pointer.sequence; slots = slots })
IsPointer-filled_from pointer slots is set =
    let e : record { page = pointer.page; relation = pointer.relation; sequence = pointer.sequence; slots = slots } ≡ filled_pointer =
    ap {A = List ℕ} {B = Pointer} (λ s. record { page = pointer.page; relation = pointer.relation; sequence = pointer.sequence; slots = s }) set
    ∙ ap {A = Pointer} {B = Pointer} (λ p. record { page = p.page; relation = p.relation; sequence = p.sequence; slots = slice_set p.slots 0 4 }) is in
    subst (IsPointer 1024) (sym e) IsPointer-filled
