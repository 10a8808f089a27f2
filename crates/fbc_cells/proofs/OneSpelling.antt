use Rattle.std.proofs.Common.{◌≡◌, ◌<◌, ◌≤◌, ◌+◌, ◌-◌, ◌*◌, ◌++◌, ◌∷◌, ℕ, zero, suc, List, length, take, drop, get_or, sym, ap, ◌∙◌, arith}
use Rattle.std.specs.Prelude.{slice_index, slice_range}
use Rattle.std.proofs.lemmas.List.{drop-drop, drop_more, length-drop, length-take, take-append-drop}
use Rattle.std.proofs.Math.Nat.{mul-div-le, mul-le-mul_left, mul-suc, mul-zero}
use Rattle.std.proofs.Math.Numerals.{suc-eq-add-one}
use Rattle.fbc_kinds.specs.declared.pages.Cell.{Cell}
use Rattle.fbc_kinds.specs.declared.pages.Data.{Data}
use Rattle.fbc_kinds.specs.declared.pages.Pointer.{Pointer}
use Rattle.fbc_kinds.specs.Head.{HasHead}
use Rattle.fbc_kinds.specs.Limits.{IsPageSize, cells}
use Rattle.fbc_kinds.specs.DataSpelling.{SpellsCell, SpellsData, cell_bytes, cells_end, piece}
use Rattle.fbc_kinds.specs.PointerSpelling.{SpellsPointer}

-- Two lists are equal from a place on where they are from further on, and in the range before that.
pub same_range : (i n : ℕ) (a b : List ℕ) → take n (drop i a) ≡ take n (drop i b) → drop (i + n) a ≡ drop (i + n) b → drop i a ≡ drop i b
same_range i n a b front back =
    sym (take-append-drop n (drop i a))
    ∙ ap (λ xs. take n (drop i a) ++ xs) (drop-drop n i a ∙ back ∙ sym (drop-drop n i b))
    ∙ ap (λ xs. xs ++ drop n (drop i b)) front
    ∙ take-append-drop n (drop i b)

-- The same for one element.
pub same_item : (i : ℕ) (a b : List ℕ) → i < length a → i < length b → get_or a i 0 ≡ get_or b i 0 → drop (i + 1) a ≡ drop (i + 1) b → drop i a ≡ drop i b
same_item i a b in_a in_b item back =
    drop_more a i 0 in_a ∙ ap (λ x. x ∷ drop (i + 1) a) item ∙ ap (λ xs. get_or b i 0 ∷ xs) back ∙ sym (drop_more b i 0 in_b)

-- Pages with one head and one body are equal.
pub same_page : (kind relation page sequence : ℕ) (a b : List ℕ) → 16 ≤ length a → 16 ≤ length b → HasHead kind relation page sequence a → HasHead kind relation page sequence b → drop 16 a ≡ drop 16 b → a ≡ b
same_page kind relation page sequence a b long_a long_b x y body =
    let twelve = same_range 12 4 a b (x.zeros ∙ sym y.zeros) body in
    let eight = same_range 8 4 a b (x.sequence_is ∙ sym y.sequence_is) twelve in
    let four = same_range 4 4 a b (x.page_is ∙ sym y.page_is) eight in
    let two = same_range 2 2 a b (x.relation_is ∙ sym y.relation_is) four in
    let one = same_item 1 a b (omega arith) (omega arith) (x.one ∙ sym y.one) two in
    same_item 0 a b (omega arith) (omega arith) (x.kind_is ∙ sym y.kind_is) one

-- A cell has one spelling.
pub one_cell_spelling : (greatest : ℕ) (content : Cell) (a b : List ℕ) → 12 ≤ length a → 12 ≤ length b → SpellsCell greatest content a → SpellsCell greatest content b → a ≡ b
one_cell_spelling greatest content a b long_a long_b x y =
    let eight = same_range 8 4 a b (x.back_page_is ∙ sym y.back_page_is) (x.value_is ∙ sym y.value_is) in
    let four = same_range 4 4 a b (x.number_is ∙ sym y.number_is) eight in
    let two = same_range 2 2 a b (x.back_cell_is ∙ sym y.back_cell_is) four in
    let one = same_item 1 a b (omega arith) (omega arith) (x.length_is ∙ sym y.length_is) two in
    same_item 0 a b (omega arith) (omega arith) (x.flag_is ∙ sym y.flag_is) one

-- Lists are equal where their first pieces are, and what follows these.
pub same_pieces : (width n : ℕ) (a b : List ℕ) → ((k : ℕ) → k < n → piece width k a ≡ piece width k b) → drop (width * n) a ≡ drop (width * n) b → a ≡ b
same_pieces width zero a b each back = rw (mul-zero width) at back
same_pieces width (suc n) a b each back =
    let step : width * suc n ≡ width * n + width = mul-suc width n in
    let here : drop (width * n + width) a ≡ drop (width * n + width) b = rw step at back in
    same_pieces width n a b (λ k inside. each k (omega arith)) (same_range (width * n) width a b (each n (omega arith)) here)

-- All the cells lie within the page.
pub cells_end-le : (size greatest : ℕ) → 16 ≤ size → cells_end size greatest ≤ size
cells_end-le size greatest large = omega (arith, mul-div-le (size - 16) (12 + greatest))

-- Each cell has its bytes.
pub length-cell_bytes : (size greatest k : ℕ) (bytes : List ℕ) → 16 ≤ size → length bytes ≡ size → k < cells size greatest → length (cell_bytes greatest k bytes) ≡ 12 + greatest
length-cell_bytes size greatest k bytes large whole inside =
    let most : (12 + greatest) * suc k ≤ (12 + greatest) * cells size greatest = mul-le-mul_left (12 + greatest) (omega arith) in
    let step : (12 + greatest) * suc k ≡ (12 + greatest) * k + (12 + greatest) = mul-suc (12 + greatest) k in
    let end = cells_end-le size greatest large in
    simp (length-take, length-drop) (omega arith)

pub large_page : (size : ℕ) → IsPageSize size → 16 ≤ size
large_page size is = grind arith

-- A pointer page has one spelling.
pub one_pointer_spelling : (size : ℕ) (page : Pointer) (a b : List ℕ) → IsPageSize size → SpellsPointer size page a → SpellsPointer size page b → a ≡ b
one_pointer_spelling size page a b is x y =
    let large = large_page size is in
    let long_a : 16 ≤ length a = omega (arith, x.size_is) in
    let long_b : 16 ≤ length b = omega (arith, y.size_is) in
    same_page 4 page.relation page.page page.sequence a b long_a long_b x.head y.head (x.slots_are ∙ sym y.slots_are)

-- A data page has one spelling.
pub one_data_spelling : (size greatest : ℕ) (page : Data) (a b : List ℕ) → IsPageSize size → SpellsData size greatest page a → SpellsData size greatest page b → a ≡ b
one_data_spelling size greatest page a b is x y =
    let large = large_page size is in
    let long_a : 16 ≤ length a = omega (arith, x.size_is) in
    let long_b : 16 ≤ length b = omega (arith, y.size_is) in
    let after = (12 + greatest) * cells size greatest in
    let each : (k : ℕ) → k < cells size greatest → cell_bytes greatest k a ≡ cell_bytes greatest k b =
    λ k inside.
    let wide_a = length-cell_bytes size greatest k a large x.size_is inside in
    let wide_b = length-cell_bytes size greatest k b large y.size_is inside in
    one_cell_spelling greatest _ (cell_bytes greatest k a) (cell_bytes greatest k b) (omega arith) (omega arith) (x.cell k inside) (y.cell k inside) in
    let back : drop after (drop 16 a) ≡ drop after (drop 16 b) = drop-drop after 16 a ∙ x.rest ∙ sym y.rest ∙ sym (drop-drop after 16 b) in
    same_page 5 page.relation page.page page.sequence a b long_a long_b x.head y.head (same_pieces (12 + greatest) (cells size greatest) (drop 16 a) (drop 16 b) each back)
