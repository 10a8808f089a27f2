-- Whether the bytes in which numbers stand are the bytes of these numbers.
use Rattle.std.proofs.Common.{◌≡◌, ◌<◌, ◌^◌, ◌&&◌, ◌+◌, ℕ, Bool, true, false, not, List, drop, refl, sym, ap, ◌∙◌, arith}
use Rattle.std.specs.Prelude.{slice_range}
use Rattle.std.specs.Str.{bytes_eq}
use Rattle.std.proofs.lemmas.Slice.Eq.{bytes_eq-Decides}
use Rattle.fbc_kinds.specs.declared.pages.Cell.{Cell}
use Rattle.fbc_kinds.specs.declared.pages.Data.{Data}
use Rattle.fbc_kinds.specs.DataSpelling.{IsCell, SpellsCell, SpellsData, any_piece, cell_bytes, empty_cell}
use Rattle.fbc_kinds.specs.Head.{HasHead, little_bytes, number_at, number_in}
use Rattle.fbc_kinds.specs.Limits.{cells, number_limit}
use Rattle.fbc_kinds.proofs.Heads.{both_pass, true_from_not}
use Rattle.fbc_kinds.proofs.Numbers.{number_in-little_2, number_in-little_4}
use Rattle.fbc_kinds.proofs.Tests.{not_of_true}
use Rattle.fbc_cells.proofs.AnyPiece.{any_piece_all, any_piece_none}
use Rattle.fbc_cells.proofs.NumberBytes.{AreNumbers}
use Rattle.fbc_cells.proofs.OnePage.{IsCell-numbers}

abbrev spells_low : List ℕ → Bool
spells_low bytes = bytes_eq (slice_range bytes 2 4) (little_bytes 2 (number_at 2 4 bytes))

abbrev spells_middle : List ℕ → Bool
spells_middle bytes = bytes_eq (slice_range bytes 4 8) (little_bytes 4 (number_at 4 8 bytes))

abbrev spells_high : List ℕ → Bool
spells_high bytes = bytes_eq (slice_range bytes 8 12) (little_bytes 4 (number_at 8 12 bytes))

-- The three numbers in the head of a page, or in a cell.
abbrev spells_numbers : List ℕ → Bool
spells_numbers bytes = spells_low bytes && spells_middle bytes && spells_high bytes

same_from_bytes : (a b : List ℕ) → bytes_eq a b ≡ true → a ≡ b
same_from_bytes a b passes = (bytes_eq-Decides a b).0 passes

numbers_from_test : (bytes : List ℕ) → spells_numbers bytes ≡ true → AreNumbers bytes
numbers_from_test bytes passes =
    let both = both_pass (spells_low bytes && spells_middle bytes) (spells_high bytes) passes in
    let front = both_pass (spells_low bytes) (spells_middle bytes) both.0 in
    record { low = same_from_bytes _ _ front.0; middle = same_from_bytes _ _ front.1; high = same_from_bytes _ _ both.1 }

test_of_numbers : (bytes : List ℕ) → AreNumbers bytes → spells_numbers bytes ≡ true
test_of_numbers bytes are = all_three _ _ _ ((bytes_eq-Decides _ _).1 are.low) ((bytes_eq-Decides _ _).1 are.middle) ((bytes_eq-Decides _ _).1 are.high)
  where
    all_three : (a b c : Bool) → a ≡ true → b ≡ true → c ≡ true → (a && b && c) ≡ true
    all_three a b c first second third = rw (first, second, third) refl

-- Bytes that are those of some number are those of the number that is read.
exact_2 : (n : ℕ) (bytes : List ℕ) → n < 2 ^ 16 → bytes ≡ little_bytes 2 n → bytes ≡ little_bytes 2 (number_in 256 bytes)
exact_2 n bytes fits is = is ∙ ap (little_bytes 2) (sym (ap (number_in 256) is ∙ number_in-little_2 n fits))

exact_4 : (n : ℕ) (bytes : List ℕ) → n < number_limit → bytes ≡ little_bytes 4 n → bytes ≡ little_bytes 4 (number_in 256 bytes)
exact_4 n bytes fits is = is ∙ ap (little_bytes 4) (sym (ap (number_in 256) is ∙ number_in-little_4 n fits))

numbers_of_head : (kind relation page sequence : ℕ) (bytes : List ℕ) → relation < 2 ^ 16 → page < number_limit → sequence < number_limit → HasHead kind relation page sequence bytes → AreNumbers bytes
numbers_of_head kind relation page sequence bytes known page_fits sequence_fits head = record {
  low = exact_2 relation (slice_range bytes 2 4) known head.relation_is;
  middle = exact_4 page (slice_range bytes 4 8) page_fits head.page_is;
  high = exact_4 sequence (slice_range bytes 8 12) sequence_fits head.sequence_is;
}

numbers_of_cell : (greatest : ℕ) (content : Cell) (bytes : List ℕ) → IsCell greatest content → SpellsCell greatest content bytes → AreNumbers bytes
numbers_of_cell greatest content bytes is spelled =
    let fits = IsCell-numbers greatest content is in
    record {
      low = exact_2 content.back_cell (slice_range bytes 2 4) fits.back_cell_fits spelled.back_cell_is;
      middle = exact_4 content.number (slice_range bytes 4 8) fits.number_fits spelled.number_is;
      high = exact_4 content.back_page (slice_range bytes 8 12) fits.back_page_fits spelled.back_page_is;
    }

-- A cell's bytes are not those of its numbers.
abbrev hides_numbers : List ℕ → Bool
hides_numbers bytes = not (spells_numbers bytes)

-- The head and each cell of a data page spell their numbers.
abbrev pub spells_data_numbers : ℕ → ℕ → List ℕ → Bool
spells_data_numbers size greatest bytes = spells_numbers bytes && not (any_piece hides_numbers (12 + greatest) (cells size greatest) (drop 16 bytes))

pub record AreDataNumbers (size greatest : ℕ) (bytes : List ℕ) : Type 0 where
  pub of_head : AreNumbers bytes
  pub of_cells : (k : ℕ) → k < cells size greatest → AreNumbers (cell_bytes greatest k bytes)

pub data_numbers : (size greatest : ℕ) (bytes : List ℕ) → spells_data_numbers size greatest bytes ≡ true → AreDataNumbers size greatest bytes
data_numbers size greatest bytes passes =
    let hidden : Bool = any_piece hides_numbers (12 + greatest) (cells size greatest) (drop 16 bytes) in
    let both = both_pass (spells_numbers bytes) (not hidden) passes in
    let none = not_hidden hidden both.1 in
    record {
      of_head = numbers_from_test bytes both.0;
      of_cells = λ k inside. numbers_from_test (cell_bytes greatest k bytes) (true_from_not (spells_numbers (cell_bytes greatest k bytes)) (any_piece_none hides_numbers (12 + greatest) (drop 16 bytes) (cells size greatest) k inside none));
    }
  where
    not_hidden : (b : Bool) → not b ≡ true → b ≡ false
    not_hidden false passes = refl
    not_hidden true passes = cc

-- A spelled data page passes.
pub data_numbers_pass : (size greatest : ℕ) (page : Data) (bytes : List ℕ) → SpellsData size greatest page bytes → spells_data_numbers size greatest bytes ≡ true
data_numbers_pass size greatest page bytes s =
    let small = s.fits.relation_fits in
    let head = test_of_numbers bytes (numbers_of_head 5 page.relation page.page page.sequence bytes (omega arith) s.fits.page_fits s.fits.sequence_fits s.head) in
    let none : any_piece hides_numbers (12 + greatest) (cells size greatest) (drop 16 bytes) ≡ false =
    any_piece_all hides_numbers (12 + greatest) (drop 16 bytes) (cells size greatest) (λ k inside.
    not_of_true (spells_numbers (cell_bytes greatest k bytes))
    (test_of_numbers (cell_bytes greatest k bytes) (numbers_of_cell greatest _ (cell_bytes greatest k bytes) (s.fits.each k empty_cell (omega (arith, s.fits.count))) (s.cell k inside)))) in
    rw (head, none) refl
