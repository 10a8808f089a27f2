-- The data page that bytes spell where they break no rule.
use Rattle.std.proofs.Common.{◌≡◌, ◌<◌, ◌≤◌, ◌+◌, ℕ, zero, suc, false, not, List, length, drop, get_or, map, None, refl, sym, subst, nat_lt, arith}
use Rattle.std.specs.Prelude.{slice_index}
use Rattle.std.specs.List.{range_with_len}
use Rattle.std.proofs.lemmas.Bool.Decides.{nat_tests}
use Rattle.std.proofs.lemmas.List.FromFn.{length-map-range_with_len, get_or-map-range_with_len}
use Rattle.fbc_kinds.specs.declared.pages.Cell.{Cell}
use Rattle.fbc_kinds.specs.declared.pages.Data.{Data}
use Rattle.fbc_kinds.specs.declared.pages.Flag.{Flag}
use Rattle.fbc_kinds.specs.declared.pages.Flag.TheVariants.{Empty, Primary, Deletion, Back}
use Rattle.fbc_kinds.specs.declared.rules.Rule.TheVariants as rule
use Rattle.fbc_kinds.specs.DataSpelling.{IsCell, SpellsCell, SpellsData, any_piece, broken_cells, broken_data, cell_bytes, cells_end, empty_cell, flag_code, has_unknown_flag, is_bad_cell}
use Rattle.fbc_kinds.specs.Head.{is_zeros, relation_in, sequence_in}
use Rattle.fbc_kinds.specs.Limits.{cells}
use Rattle.fbc_kinds.specs.PointerSpelling.{broken_start}
use Rattle.fbc_kinds.proofs.HeaderRules.{ThreeFail, both_unbroken, three_in_order}
use Rattle.fbc_kinds.proofs.Heads.{true_from_not}
use Rattle.fbc_cells.proofs.AnyPiece.{any_piece_none}
use Rattle.fbc_cells.proofs.CellRead as cell
use Rattle.fbc_cells.proofs.CellsRead.{zeros_left}
use Rattle.fbc_cells.proofs.NumberBytes.{AreNumbers}
use Rattle.fbc_cells.proofs.OneSpelling.{length-cell_bytes}
use Rattle.fbc_spelling.proofs.PointerRead.{start_read}

-- The flag that a byte stands for.
abbrev flag_of : ℕ → Flag
flag_of zero = Empty
flag_of (suc zero) = Primary
flag_of (suc (suc zero)) = Deletion
flag_of _ = Back

code_of_flag : (code : ℕ) → code ≤ 3 → flag_code (flag_of code) ≡ code
code_of_flag zero known = refl
code_of_flag (suc zero) known = refl
code_of_flag (suc (suc zero)) known = refl
code_of_flag (suc (suc (suc zero))) known = refl
code_of_flag (suc (suc (suc (suc n)))) known = absurd (omega arith)

-- The cell at a place.
abbrev cell_of : List ℕ → Cell
cell_of bytes = cell.cell_in (flag_of (slice_index bytes 0)) bytes

abbrev cell_at : ℕ → List ℕ → ℕ → Cell
cell_at greatest bytes k = cell_of (cell_bytes greatest k bytes)

abbrev cells_in : ℕ → ℕ → List ℕ → List Cell
cells_in size greatest bytes = map (cell_at greatest bytes) (range_with_len 0 (cells size greatest))

-- The data page that the bytes spell.
abbrev pub data_in : ℕ → ℕ → ℕ → List ℕ → Data
data_in size greatest page bytes = record { page = page; relation = relation_in bytes; sequence = sequence_in bytes; cells = cells_in size greatest bytes }

-- A flag that is not unknown is one of four.
known_flag : (code : ℕ) → nat_lt 3 code ≡ false → code ≤ 3
known_flag code known = grind (arith, nat_tests)

module _ (size greatest page : ℕ) (bytes : List ℕ) (large : 16 ≤ size) (numbers : AreNumbers bytes) (of_cells : (k : ℕ) → k < cells size greatest → AreNumbers (cell_bytes greatest k bytes)) (long : length bytes ≡ size) (unbroken : broken_data size greatest page bytes ≡ None) where
  parts : (broken_start 5 page bytes ≡ None) × (broken_cells size greatest bytes ≡ None)
  parts = both_unbroken (broken_start 5 page bytes) (broken_cells size greatest bytes) unbroken

  tests : ThreeFail (any_piece has_unknown_flag (12 + greatest) (cells size greatest) (drop 16 bytes)) (any_piece (is_bad_cell greatest) (12 + greatest) (cells size greatest) (drop 16 bytes)) (not (is_zeros (drop (cells_end size greatest) bytes)))
  tests = three_in_order rule.Flag rule.Cell rule.Rest _ _ _ parts.1

  -- Each cell is spelled by its bytes.
  record IsCellRead (k : ℕ) (content : Cell) : Type 0 where
    pub fits : IsCell greatest content
    pub spelled : SpellsCell greatest content (cell_bytes greatest k bytes)

  cell_read : (k : ℕ) → k < cells size greatest → IsCellRead k (cell_at greatest bytes k)
  cell_read k inside =
      let part : List ℕ = cell_bytes greatest k bytes in
      let wide = length-cell_bytes size greatest k bytes large long inside in
      let flagged = any_piece_none has_unknown_flag (12 + greatest) (drop 16 bytes) (cells size greatest) k inside tests.first in
      let fair = any_piece_none (is_bad_cell greatest) (12 + greatest) (drop 16 bytes) (cells size greatest) k inside tests.second in
      let read = cell.cell_read greatest part (of_cells k inside) wide fair (flag_of (slice_index part 0)) (code_of_flag (slice_index part 0) (known_flag (slice_index part 0) flagged)) in
      record { fits = read.fits; spelled = read.spelled }

  at_place : (k : ℕ) (d : Cell) → k < cells size greatest → get_or (cells_in size greatest bytes) k d ≡ cell_at greatest bytes k
  at_place k d inside = get_or-map-range_with_len (cell_at greatest bytes) 0 (cells size greatest) k k d inside (omega arith)

  count : length (cells_in size greatest bytes) ≡ cells size greatest
  count = length-map-range_with_len (cell_at greatest bytes) 0 (cells size greatest)

  pub data_spelled : SpellsData size greatest (data_in size greatest page bytes) bytes
  data_spelled =
      let start = start_read 5 page bytes numbers (omega arith) parts.0 in
      record {
        fits = record {
          page_fits = start.head.page_fits;
          sequence_fits = start.head.sequence_fits;
          relation_fits = start.relation_fits;
          count = count;
          each = λ k d inside. let within : k < cells size greatest = omega (arith, count) in subst (IsCell greatest) (sym (at_place k d within)) (cell_read k within).fits;
        };
        size_is = long;
        head = start.head.head;
        cell = λ k inside.
            let P : Cell → Type 0 = λ content. SpellsCell greatest content (cell_bytes greatest k bytes) in
            subst P (sym (at_place k empty_cell inside)) (cell_read k inside).spelled;
        rest = zeros_left (cells_end size greatest) size bytes long (true_from_not (is_zeros (drop (cells_end size greatest) bytes)) tests.third);
      }
