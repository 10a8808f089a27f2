-- A store of pages, one insert on.
use Rattle.std.proofs.Common.{◌≡◌, ◌<◌, ◌≤◌, ◌+◌, ◌++◌, ℕ, List, [], ◌∷◌, length, take, slice_set, slice_get, slice_index_or, Some, None, ap, sym, ◌∙◌, subst, length-append, arith}
use Rattle.std.specs.Option.{option_map}
use Rattle.std.proofs.lemmas.Option.{slice_get-map, slice_get-get_or, slice_get_past}
use Rattle.std.proofs.lemmas.List.{get_or-take, length-take-le}
use Rattle.fbc_kinds.specs.declared.pages.Cell.{Cell}
use Rattle.fbc_kinds.specs.declared.pages.Data.{Data}
use Rattle.fbc_console.specs.declared.store.Store.TheInside.{Inside}
use Rattle.fbc_console.specs.FreshFile.{inserted_cell, cells_of, filled_data}
use Rattle.fbc_console.specs.StoredPages.{values_in, values_of, IsStore, IsShortValue}
use Rattle.std.specs.List.{All}
use Rattle.std.proofs.lemmas.List.Elements.{All-append, All-replicate}
use Rattle.fbc_kinds.specs.DataSpelling.{IsData}
use Rattle.fbc_console.proofs.Fits.{IsData-filled}
use Rattle.fbc_console.proofs.CellLemmas.{values_in-cells_of, length-cells_of, set-cells_of}

cells_are : (s : Inside) → IsStore s → s.data.cells ≡ cells_of 45 (values_of s)
cells_are s is = ap (λ page. page.cells) is.data_is

-- There are 45 cells.
pub length-cells : (s : Inside) → IsStore s → length s.data.cells ≡ 45
length-cells s is =
    ap length (cells_are s is) ∙ length-cells_of 45 (values_of s) (omega (arith, is.rows_are, is.room))

-- The cells after an insert hold the value too.
pub cells-inserted : (s : Inside) (value : List ℕ) → IsStore s → s.rows < 45 → slice_set s.data.cells s.rows (inserted_cell value) ≡ cells_of 45 (values_of s ++ value ∷ [])
cells-inserted s value is room =
    ap (λ cells. slice_set cells s.rows (inserted_cell value)) (cells_are s is)
    ∙ ap (λ row. slice_set (cells_of 45 (values_of s)) row (inserted_cell value)) (sym is.rows_are)
    ∙ set-cells_of 45 (values_of s) value (omega (arith, is.rows_are, room))

-- And they hold it as the last one.
pub values-inserted : (s : Inside) (value : List ℕ) → IsStore s → s.rows < 45 → values_in (s.rows + 1) (slice_set s.data.cells s.rows (inserted_cell value)) ≡ values_of s ++ value ∷ []
values-inserted s value is room =
    ap (values_in (s.rows + 1)) (cells-inserted s value is room)
    ∙ ap (λ rows. values_in rows (cells_of 45 (values_of s ++ value ∷ []))) (rows-inserted s value is)
    ∙ values_in-cells_of 45 (values_of s ++ value ∷ [])
  where
    rows-inserted : (s : Inside) (value : List ℕ) → IsStore s → s.rows + 1 ≡ length (values_of s ++ value ∷ [])
    rows-inserted s value is = ap (λ rows. rows + 1) (sym is.rows_are) ∙ sym (length-append (values_of s) (value ∷ []))

-- A store after an insert is a store.
pub IsStore-inserted : (s : Inside) (value : List ℕ) (cells : List Cell) → cells ≡ slice_set s.data.cells s.rows (inserted_cell value) → IsStore s → s.rows < 45 → IsShortValue value → IsStore (record s { «data» = record s.data { cells = cells }; rows = s.rows + 1 })
IsStore-inserted s value cells set is room short = record {
  header_is = is.header_is;
  inventory_is = is.inventory_is;
  tip_is = is.tip_is;
  pointer_is = is.pointer_is;
  data_is =
      ap {A = List Cell} {B = Data} (λ xs. record s.data { cells = xs }) (set ∙ cells-inserted s value is room)
      ∙ ap {A = Data} {B = Data} (λ page. record page { cells = cells_of 45 (values_of s ++ value ∷ []) }) is.data_is
      ∙ ap filled_data (sym (ap (values_in (s.rows + 1)) set ∙ values-inserted s value is room));
  rows_are =
      ap length (ap (values_in (s.rows + 1)) set ∙ values-inserted s value is room)
      ∙ length-append (values_of s) (value ∷ [])
      ∙ ap (λ rows. rows + 1) is.rows_are;
  room = omega (arith, room);
  short =
      subst (All IsShortValue) (sym (ap (values_in (s.rows + 1)) set ∙ values-inserted s value is room))
      (All-append IsShortValue (values_of s) (value ∷ []) is.short (All-replicate IsShortValue 1 value short));
}

-- A store with fewer than 45 values has room.
pub has_room : (s : Inside) (values : List (List ℕ)) → values_of s ≡ values → length values < 45 → IsStore s → s.rows < 45
has_room s values are few is = let e : s.rows ≡ length values = sym is.rows_are ∙ ap length are in omega (arith, e, few)

-- The value of a row.
pub slice_get-values_of : (s : Inside) (row : ℕ) (cell : Cell) → IsStore s → row < s.rows → slice_get (values_of s) row ≡ Some (slice_index_or s.data.cells row cell).value
slice_get-values_of s row cell is within =
    slice_get-map (λ held. held.value) (take s.rows s.data.cells) row
    ∙ ap (option_map (λ held. held.value)) (slice_get-get_or (take s.rows s.data.cells) row cell front ∙ ap Some (get_or-take s.rows s.data.cells row cell within))
  where
    front : row < length (take s.rows s.data.cells)
    front = omega (arith, length-take-le s.rows s.data.cells (omega (arith, length-cells s is, is.room)), within)

-- Past the rows there is nothing.
pub slice_get-past : (s : Inside) (row : ℕ) → IsStore s → s.rows ≤ row → slice_get (values_of s) row ≡ None
slice_get-past s row is past = slice_get_past (values_of s) row (omega (arith, is.rows_are, past))

-- The data page is within its limits.
pub data_fits : (s : Inside) → IsStore s → IsData 1024 10 s.data
data_fits s is = subst (IsData 1024 10) (sym is.data_is) (IsData-filled (values_of s) (omega (arith, is.rows_are, is.room)) is.short)

-- A store with a row has a value.
pub has_values : (s : Inside) (values : List (List ℕ)) → values_of s ≡ values → IsStore s → 0 < s.rows → 0 < length values
has_values s values are is some = let e : s.rows ≡ length values = sym is.rows_are ∙ ap length are in omega (arith, e, some)
