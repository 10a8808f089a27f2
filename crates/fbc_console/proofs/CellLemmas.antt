-- The cells of a data page that holds a list of values.
use Rattle.std.proofs.Common.{◌≡◌, ◌<◌, ◌≤◌, ◌+◌, ◌-◌, ◌++◌, ℕ, suc, List, [], ◌∷◌, length, take, slice_set, refl, ap, sym, ◌∙◌, append_assoc, length-append, arith}
use Rattle.std.specs.Prelude.{map, replicate}
use Rattle.std.proofs.Math.Seq.{take-append_seam, set-append_seam}
use Rattle.std.proofs.lemmas.List.{length-map, map-append}
use Rattle.std.proofs.lemmas.Grind.{common_steps}
use Rattle.fbc_kinds.specs.declared.pages.Cell.{Cell}
use Rattle.fbc_console.specs.FreshFile.{inserted_cell, cells_of}
use Rattle.fbc_kinds.specs.DataSpelling.{empty_cell}
use Rattle.fbc_console.specs.StoredPages.{values_in}

-- Reading the values back gives the values.
map-value-inserted : (values : List (List ℕ)) → map (λ cell. cell.value) (map inserted_cell values) ≡ values
map-value-inserted [] = refl
map-value-inserted (value ∷ values) = ap (λ rest. value ∷ rest) (map-value-inserted values)

pub values_in-cells_of : (count : ℕ) (values : List (List ℕ)) → values_in (length values) (cells_of count values) ≡ values
unfolding cells_of
values_in-cells_of count values =
    let front : List Cell = map inserted_cell values in
    let rest : List Cell = replicate (count - length values) empty_cell in
    ap (λ k. map (λ cell. cell.value) (take k (front ++ rest))) (sym (length-map values inserted_cell))
    ∙ ap (map (λ cell. cell.value)) (take-append_seam front rest)
    ∙ map-value-inserted values

pub length-cells_of : (count : ℕ) (values : List (List ℕ)) → length values ≤ count → length (cells_of count values) ≡ count
unfolding cells_of
length-cells_of count values fits = grind (arith, common_steps, length-map values inserted_cell)

-- The rest of the cells begins with an empty one where there is room.
replicate-sub : (count taken : ℕ) (cell : Cell) → taken < count → replicate (count - taken) cell ≡ cell ∷ replicate (count - (taken + 1)) cell
replicate-sub count taken cell fits =
    let one_less : count - taken ≡ suc (count - (taken + 1)) = omega arith in
    ap (λ n. replicate n cell) one_less

-- Putting a value into the first empty cell adds it to the values.
pub set-cells_of : (count : ℕ) (values : List (List ℕ)) (value : List ℕ) → length values < count → slice_set (cells_of count values) (length values) (inserted_cell value) ≡ cells_of count (values ++ value ∷ [])
unfolding cells_of
set-cells_of count values value fits =
    let front : List Cell = map inserted_cell values in
    let rest : List Cell = replicate (count - (length values + 1)) empty_cell in
    ap (λ cells. slice_set (front ++ cells) (length values) (inserted_cell value)) (replicate-sub count (length values) empty_cell fits)
    ∙ ap (λ k. slice_set (front ++ empty_cell ∷ rest) k (inserted_cell value)) (sym (length-map values inserted_cell))
    ∙ set-append_seam front empty_cell rest (inserted_cell value)
    ∙ sym (append_assoc front (inserted_cell value ∷ []) rest)
    ∙ ap (λ cells. cells ++ rest) (sym (map-append inserted_cell values (value ∷ [])))
    ∙ ap (λ k. map inserted_cell (values ++ value ∷ []) ++ replicate (count - k) empty_cell) (sym (length-append values (value ∷ [])))
