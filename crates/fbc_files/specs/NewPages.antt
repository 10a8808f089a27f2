-- The pages of a new file.
use Rattle.std.specs.Prelude.{◌≡◌, ◌+◌, ◌-◌, ◌≤◌, ◌++◌, ℕ, Bool, true, false, IsTrue, List, [], ◌∷◌, Some, length, map, replicate, slice_get}
use Rattle.std.specs.List.{range_with_len}
use Rattle.fbc_kinds.specs.declared.pages.Header.{Header}
use Rattle.fbc_kinds.specs.declared.pages.Inventory.{Inventory}
use Rattle.fbc_kinds.specs.declared.pages.Page.{Page}
use Rattle.fbc_kinds.specs.declared.pages.Page.TheVariants as kind
use Rattle.fbc_kinds.specs.declared.pages.Pointer.{Pointer}
use Rattle.fbc_kinds.specs.declared.pages.Relation.{Relation}
use Rattle.fbc_kinds.specs.declared.pages.State.{State}
use Rattle.fbc_kinds.specs.declared.pages.State.TheVariants.{Active}
use Rattle.fbc_kinds.specs.declared.pages.Tip.{Tip}
use Rattle.fbc_kinds.specs.HeaderSpelling.{is_name}
use Rattle.fbc_kinds.specs.Limits.{inventory_bits, relation_limit, slots, tip_numbers, value_limit}
use Rattle.fbc_files.specs.declared.relations.NewRelation.{NewRelation}

-- A relation that a file may be made with: its name and its value length are within their limits.
pub record IsNewRelation (relation : NewRelation) : Type 0 where
  pub name : IsTrue (is_name relation.name)
  pub value_from : 1 ≤ relation.length
  pub value_to : relation.length ≤ value_limit

-- The relations that a file may be made with: one to eight, of different names.
pub record AreNewRelations (relations : List NewRelation) : Type 0 where
  pub some : 1 ≤ length relations
  pub few : length relations ≤ relation_limit
  pub each : (i : ℕ) (relation : NewRelation) → slice_get relations i ≡ Some relation → IsNewRelation relation
  pub own_names : (i j : ℕ) (r s : NewRelation) → slice_get relations i ≡ Some r → slice_get relations j ≡ Some s → r.name ≡ s.name → i ≡ j

-- So many marks of taken pages, and behind them marks of free ones.
unfoldable pub taken_first : ℕ → ℕ → List Bool
taken_first taken free = replicate taken true ++ replicate free false

-- So many transactions that are not over.
unfoldable pub active_states : ℕ → List State
active_states count = replicate count Active

-- So many slots that name nothing.
unfoldable pub empty_slots : ℕ → List ℕ
empty_slots count = replicate count 0

-- The header is page 0, the page inventory page 1, the transaction inventory page 2, and the pointer pages of the
-- relations stand from page 3 on.
abbrev pub first_pointer : ℕ
first_pointer = 3

-- How many pages a new file has.
abbrev pub page_count : List NewRelation → ℕ
page_count relations = first_pointer + length relations

-- The entries of relations whose pointer pages stand one after the other from this page on.
abbrev pub new_entries : ℕ → List NewRelation → List Relation
new_entries page [] = []
new_entries page (relation ∷ relations) =
    record { name = relation.name; length = relation.length; pointers = page ∷ [] } ∷ new_entries (page + 1) relations

-- The header of a file in which no transaction has begun.
abbrev pub new_header : ℕ → List NewRelation → Header
new_header size relations = record {
  size = size;
  next = 1;
  inventories = 1;
  oldest = 0;
  relations = new_entries first_pointer relations;
  tips = 2 ∷ [];
}

-- The page inventory by which the first pages are taken, as many as the file has.
abbrev pub new_inventory : ℕ → ℕ → Inventory
new_inventory size count = record { page = 1; sequence = 0; taken = taken_first count (inventory_bits size - count) }

-- The transaction inventory in which no transaction is over.
abbrev pub new_tip : ℕ → Tip
new_tip size = record { page = 2; sequence = 0; states = active_states (tip_numbers size) }

-- The pointer page of a relation, which names no data page.
abbrev pub new_pointer : ℕ → ℕ → Pointer
new_pointer size relation = record { page = first_pointer + relation; relation = relation; sequence = 0; slots = empty_slots (slots size) }

abbrev pub pointer_page : ℕ → ℕ → Page
pointer_page size relation = kind.Pointer (new_pointer size relation)

-- The pages of a new file, in the order of their numbers.
abbrev pub new_pages : ℕ → List NewRelation → List Page
new_pages size relations =
    kind.Header (new_header size relations)
    ∷ kind.Inventory (new_inventory size (page_count relations))
    ∷ kind.Tip (new_tip size)
    ∷ map (pointer_page size) (range_with_len 0 (length relations))
