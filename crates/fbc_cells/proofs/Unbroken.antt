use Rattle.std.proofs.Common.{◌≡◌, ◌≢◌, ◌<◌, ◌≤◌, ◌+◌, ◌-◌, ◌*◌, ◌++◌, ◌==◌, ◌||◌, ◌&&◌, ℕ, zero, suc, Bool, true, false, not, nat_le, nat_lt, if◌then◌else◌, List, [], length, take, drop, get_or, replicate, Some, None, refl, sym, ap, ◌∙◌, inl, inr, arith}
use Rattle.std.specs.Prelude.{slice_index, slice_range}
use Rattle.std.proofs.lemmas.Bool.Decides.{nat_tests}
use Rattle.std.proofs.lemmas.Bool.{cases_lt}
use Rattle.std.proofs.lemmas.List.{drop-drop, drop-replicate, drop_at, get_or-replicate, get_or_past, length-replicate}
use Rattle.fbc_kinds.specs.declared.pages.Cell.{Cell}
use Rattle.fbc_kinds.specs.declared.pages.Data.{Data}
use Rattle.fbc_kinds.specs.declared.pages.Pointer.{Pointer}
use Rattle.fbc_kinds.specs.declared.pages.Flag.{Flag}
use Rattle.fbc_kinds.specs.declared.pages.Flag.TheVariants.{Empty, Primary, Deletion, Back}
use Rattle.fbc_kinds.specs.Head.{HasHead, broken_head, has_bad_head, is_zeros, little_bytes, number_in, page_in, relation_in}
use Rattle.fbc_kinds.specs.Limits.{IsPageSize, cells, number_limit}
use Rattle.fbc_kinds.specs.Padding.{padded}
use Rattle.fbc_kinds.specs.PointerSpelling.{SpellsPointer, broken_pointer, broken_relation, broken_start}
use Rattle.fbc_kinds.specs.DataSpelling.{IsCell, IsContent, IsVersion, SpellsCell, SpellsData, any_piece, broken_cells, broken_data, cell_bytes, cells_end, empty_cell, flag_code, has_bad_length, has_stray_back, has_unknown_flag, is_bad_cell, is_bad_version, piece}
use Rattle.fbc_kinds.proofs.Heads.{is_zeros-replicate, zeros-is_zeros}
use Rattle.fbc_kinds.proofs.Numbers.{number_in-little_2, number_in-little_4}
use Rattle.fbc_cells.proofs.AnyPiece.{any_piece_all}
use Rattle.fbc_cells.proofs.CellRead.{empty_read, not_zero, spelled_by}
use Rattle.fbc_cells.proofs.NumberBytes.{numbers_of_bytes}
use Rattle.fbc_cells.proofs.OnePage.{IsCell-numbers}
use Rattle.fbc_cells.proofs.OneSpelling.{large_page, length-cell_bytes, one_cell_spelling}

-- A number equals itself.
same_number : (n m : ℕ) → n ≡ m → (n == m) ≡ true
same_number n m is = grind (arith, nat_tests)

-- The head of a page of a relation breaks no rule.
pub unbroken_start : (kind relation page sequence : ℕ) (bytes : List ℕ) → nat_le kind 3 ≡ false → (kind == 1) ≡ false → relation < 8 → page < number_limit
    → HasHead kind relation page sequence bytes → broken_start kind page bytes ≡ None
unbroken_start kind relation page sequence bytes late other known small head =
    let right_kind = same_number (slice_index bytes 0) kind head.kind_is in
    let one = same_number (slice_index bytes 1) 1 head.one in
    let zeros : is_zeros (slice_range bytes 12 16) ≡ true = ap is_zeros head.zeros in
    let own : page_in bytes ≡ page = ap (number_in 256) head.page_is ∙ number_in-little_4 page small in
    let right_page = same_number (page_in bytes) page own in
    let named : relation_in bytes ≡ relation = ap (number_in 256) head.relation_is ∙ number_in-little_2 relation (omega arith) in
    let below : nat_le 8 (relation_in bytes) ≡ false = grind (arith, nat_tests) in
    rw (right_kind, one, zeros, late, other, right_page, below) refl

-- A spelled pointer page breaks no rule.
pub unbroken_pointer : (size : ℕ) (page : Pointer) (bytes : List ℕ) → SpellsPointer size page bytes → broken_pointer page.page bytes ≡ None
unbroken_pointer size page bytes is =
    unbroken_start 4 page.relation page.page page.sequence bytes refl refl is.fits.relation_fits is.fits.page_fits is.head

-- A test fails where it passes only with a contradiction.
fails_from : (b : Bool) → (b ≡ true → ⊥) → b ≡ false
fails_from true never = absurd (never refl)
fails_from false never = refl

-- The bytes of a number above zero are not all zeros.
some_bytes : (n : ℕ) (bytes : List ℕ) → 0 < n → n < number_limit → bytes ≡ little_bytes 4 n → is_zeros bytes ≡ false
some_bytes n bytes some small is =
    fails_from (is_zeros bytes) (λ zeros.
    let long : length bytes ≡ 4 = ap length is in
    let none : bytes ≡ replicate 4 0 = zeros-is_zeros bytes zeros ∙ ap (λ k. replicate k 0) long in
    let number : n ≡ 0 = sym (number_in-little_4 n small) ∙ ap (number_in 256) (sym is ∙ none) in
    omega arith)

-- The number of four zeros is zero.
no_bytes : (n : ℕ) (bytes : List ℕ) → n < number_limit → bytes ≡ little_bytes 4 n → is_zeros bytes ≡ true → n ≡ 0
no_bytes n bytes small is zeros =
    let long : length bytes ≡ 4 = ap length is in
    let none : bytes ≡ replicate 4 0 = zeros-is_zeros bytes zeros ∙ ap (λ k. replicate k 0) long in
    sym (number_in-little_4 n small) ∙ ap (number_in 256) (sym is ∙ none)

-- A back cell without a back page is none.
back_fair : (page cell : Bool) → (page ≡ true → cell ≡ true) → (page && not cell) ≡ false
back_fair true true named = refl
back_fair true false named = sym (named refl)
back_fair false cell named = refl

-- A flag is at most 3.
known_flag : (f : Flag) → nat_lt 3 (flag_code f) ≡ false
known_flag Empty = refl
known_flag Primary = refl
known_flag Deletion = refl
known_flag Back = refl

-- None of four tests passes.
none_of_four : (a b c d : Bool) → a ≡ false → b ≡ false → c ≡ false → d ≡ false → (a || b || c || d) ≡ false
none_of_four a b c d fa fb fc fd = rw (fa, fb, fc, fd) refl

-- The test of the length of a value, by the cell's flag.
right_length : (greatest code size : ℕ) → (code ≡ 2 → size ≡ 0) → (code ≢ 2 → (0 < size) × (size ≤ greatest)) → (if code == 2 then not (size == 0) else size == 0 || nat_lt greatest size) ≡ false
right_length greatest code size deletion value = grind (arith, nat_tests)

-- Each of zeros is a byte.
zeros_small : (n i : ℕ) → get_or (replicate {A = ℕ} n 0) i 0 < 256
zeros_small n i =
    elim (cases_lt i n) [
      | inl below ↦ rw (get_or-replicate {A = ℕ} n i 0 0 below) (omega arith)
      | inr past ↦ let short : length (replicate {A = ℕ} n 0) ≤ i = omega (arith, length-replicate {A = ℕ} n 0) in rw (get_or_past (replicate {A = ℕ} n 0) i 0 short) (omega arith)
    ]

-- Zeros spell a cell that holds nothing.
spelled_zeros : (greatest : ℕ) → SpellsCell greatest empty_cell (replicate (12 + greatest) 0)
spelled_zeros greatest =
    let width = 12 + greatest in
    let first : get_or (replicate {A = ℕ} width 0) 0 0 ≡ 0 = get_or-replicate {A = ℕ} width 0 0 0 (omega arith) in
    let second : get_or (replicate {A = ℕ} width 0) 1 0 ≡ 0 = get_or-replicate {A = ℕ} width 1 0 0 (omega arith) in
    let none = same_number (get_or (replicate {A = ℕ} width 0) 0 0) 0 first in
    let fair : is_bad_cell greatest (replicate {A = ℕ} width 0) ≡ false = rw none (ap not (is_zeros-replicate width)) in
    let tail : is_zeros (drop (12 + get_or (replicate {A = ℕ} width 0) 1 0) (replicate {A = ℕ} width 0)) ≡ true =
    ap is_zeros (drop-replicate (12 + get_or (replicate {A = ℕ} width 0) 1 0) width 0) ∙ is_zeros-replicate (width - (12 + get_or (replicate {A = ℕ} width 0) 1 0)) in
    let spelled = spelled_by greatest (replicate {A = ℕ} width 0) (numbers_of_bytes (replicate {A = ℕ} width 0) (zeros_small width) (omega (arith, length-replicate {A = ℕ} width 0))) (length-replicate width 0) fair Empty (sym first) (omega (arith, second)) tail in
    rw (empty_read width (omega arith)) at spelled

module _ (greatest : ℕ) (content : Cell) (bytes : List ℕ) (long : length bytes ≡ 12 + greatest) (is : SpellsCell greatest content bytes) where
  -- Zeros follow the value.
  tail_zeros : is_zeros (drop (12 + slice_index bytes 1) bytes) ≡ true
  tail_zeros =
      let value = content.value in
      let after : drop (12 + slice_index bytes 1) bytes ≡ replicate (greatest - length value) 0 =
      sym (drop-drop (slice_index bytes 1) 12 bytes) ∙ ap (drop (slice_index bytes 1)) is.value_is
      ∙ drop_at value (replicate (greatest - length value) 0) (slice_index bytes 1) (sym is.length_is) in
      ap is_zeros after ∙ is_zeros-replicate (greatest - length value)

  -- The bytes of a version are not bad.
  fair_bytes : IsVersion content → has_bad_length greatest bytes ≡ false → is_bad_version greatest bytes ≡ false
  fair_bytes version sized =
      none_of_four (has_bad_length greatest bytes) (is_zeros (slice_range bytes 4 8)) (not (is_zeros (drop (12 + slice_index bytes 1) bytes))) (has_stray_back bytes)
      sized
      (some_bytes content.number (slice_range bytes 4 8) version.numbered version.number_fits is.number_is)
      (ap not tail_zeros)
      (back_fair (is_zeros (slice_range bytes 8 12)) (is_zeros (slice_range bytes 2 4)) (λ zeros.
      let none = version.back (no_bytes content.back_page (slice_range bytes 8 12) version.back_page_fits is.back_page_is zeros) in
      ap is_zeros (is.back_cell_is ∙ ap (little_bytes 2) none)))

  -- The bytes of a cell that holds nothing are zeros.
  empty_bytes : content ≡ empty_cell → is_zeros bytes ≡ true
  empty_bytes nothing =
      let long_zeros = length-replicate {A = ℕ} (12 + greatest) 0 in
      let same : bytes ≡ replicate (12 + greatest) 0 =
      one_cell_spelling greatest empty_cell bytes (replicate (12 + greatest) 0) (omega arith) (omega arith) (rw nothing at is) (spelled_zeros greatest) in
      ap is_zeros same ∙ is_zeros-replicate (12 + greatest)

  -- The bytes of a version are not those of a bad cell.
  fair_flag : 0 < flag_code content.flag → is_bad_version greatest bytes ≡ false → is_bad_cell greatest bytes ≡ false
  fair_flag some fair =
      let other = not_zero (slice_index bytes 0) (omega (arith, is.flag_is)) in
      rw other fair

  -- The bytes of a cell within its limits are not bad.
  fair_cell : (f : Flag) → content.flag ≡ f → IsContent f greatest content → is_bad_cell greatest bytes ≡ false
  fair_cell Empty flag fits =
      let none = same_number (slice_index bytes 0) 0 (is.flag_is ∙ ap flag_code flag) in
      rw none (ap not (empty_bytes fits))
  fair_cell Primary flag fits =
      let code : slice_index bytes 0 ≡ 1 = is.flag_is ∙ ap flag_code flag in
      fair_flag (omega (arith, is.flag_is))
      (fair_bytes fits.0 (right_length greatest (slice_index bytes 0) (slice_index bytes 1) (λ two. absurd (omega arith)) (λ other. (omega (arith, is.length_is, fits.1), omega (arith, is.length_is, fits.2)))))
  fair_cell Deletion flag fits =
      let code : slice_index bytes 0 ≡ 2 = is.flag_is ∙ ap flag_code flag in
      let none : slice_index bytes 1 ≡ 0 = is.length_is ∙ ap length fits.1 in
      fair_flag (omega (arith, is.flag_is))
      (fair_bytes fits.0 (right_length greatest (slice_index bytes 0) (slice_index bytes 1) (λ two. none) (λ other. absurd (other code))))
  fair_cell Back flag fits =
      let code : slice_index bytes 0 ≡ 3 = is.flag_is ∙ ap flag_code flag in
      fair_flag (omega (arith, is.flag_is))
      (fair_bytes fits.0 (right_length greatest (slice_index bytes 0) (slice_index bytes 1) (λ two. absurd (omega arith)) (λ other. (omega (arith, is.length_is, fits.1), omega (arith, is.length_is, fits.2)))))

-- A spelled data page breaks no rule.
pub unbroken_data : (size greatest : ℕ) (page : Data) (bytes : List ℕ) → IsPageSize size → SpellsData size greatest page bytes → broken_data size greatest page.page bytes ≡ None
unbroken_data size greatest page bytes right_size is =
    let large = large_page size right_size in
    let start = unbroken_start 5 page.relation page.page page.sequence bytes refl refl is.fits.relation_fits is.fits.page_fits is.head in
    let flags : any_piece has_unknown_flag (12 + greatest) (cells size greatest) (drop 16 bytes) ≡ false =
    any_piece_all has_unknown_flag (12 + greatest) (drop 16 bytes) (cells size greatest) (λ k inside.
    ap (nat_lt 3) (is.cell k inside).flag_is ∙ known_flag _) in
    let fair : any_piece (is_bad_cell greatest) (12 + greatest) (cells size greatest) (drop 16 bytes) ≡ false =
    any_piece_all (is_bad_cell greatest) (12 + greatest) (drop 16 bytes) (cells size greatest) (λ k inside.
    fair_cell greatest (get_or page.cells k empty_cell) (cell_bytes greatest k bytes) (length-cell_bytes size greatest k bytes large is.size_is inside) (is.cell k inside)
    (get_or page.cells k empty_cell).flag refl (is.fits.each k empty_cell (omega (arith, is.fits.count)))) in
    let zeros : is_zeros (drop (cells_end size greatest) bytes) ≡ true = ap is_zeros is.rest ∙ is_zeros-replicate (size - cells_end size greatest) in
    rw (start, flags, fair, zeros) refl
