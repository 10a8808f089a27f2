-- What a store's pages say.
use Rattle.std.specs.Prelude.{◌≡◌, ◌≤◌, ◌<◌, ℕ, List, length, map, take}
use Rattle.std.specs.List.{All}
use Rattle.fbc_kinds.specs.declared.pages.Cell.{Cell}
use Rattle.fbc_console.specs.declared.store.Store.TheInside.{Inside}
use Rattle.fbc_console.specs.FreshFile.{fresh_header, fresh_inventory, fresh_tip, fresh_pointer, filled_data}

-- The values that the first cells hold.
abbrev pub values_in : ℕ → List Cell → List (List ℕ)
values_in rows cells = map (λ cell. cell.value) (take rows cells)

-- The values that were inserted.
abbrev pub values_of : Inside → List (List ℕ)
values_of s = values_in s.rows s.data.cells

-- A value has 1 to 10 bytes.
pub record IsShortValue (value : List ℕ) : Type 0 where
  pub some : 0 < length value
  pub few : length value ≤ 10

-- All pages are those of the fresh file but for the data page, which holds the values.
pub record IsStore (s : Inside) : Type 0 where
  pub header_is : s.header ≡ fresh_header
  pub inventory_is : s.inventory ≡ fresh_inventory
  pub tip_is : s.tip ≡ fresh_tip
  pub pointer_is : s.pointer ≡ fresh_pointer
  pub data_is : s.data ≡ filled_data (values_of s)
  pub rows_are : length (values_of s) ≡ s.rows
  pub room : s.rows ≤ 45
  pub short : All IsShortValue (values_of s)
