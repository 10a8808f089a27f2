use Rattle.std.proofs.Common.{◌≡◌, ◌≢◌, ◌<◌, ◌≤◌, ◌+◌, ◌-◌, ◌*◌, ◌^◌, ◌++◌, ◌==◌, ◌||◌, ◌&&◌, ℕ, zero, suc, Bool, true, false, not, nat_lt, if◌then◌else◌, List, [], ◌∷◌, length, take, drop, get_or, replicate, refl, sym, ap, ◌∙◌, arith}
use Rattle.std.specs.Prelude.{slice_index, slice_range}
use Rattle.std.proofs.lemmas.Bool.Decides.{nat_tests}
use Rattle.std.proofs.lemmas.List.{drop-drop, drop-replicate, get_or-replicate, length-drop, length-take-le, take-append-drop, take-replicate}
use Rattle.std.proofs.Math.Nat.{pow-succ'}
use Rattle.fbc_kinds.specs.declared.pages.Cell.{Cell}
use Rattle.fbc_kinds.specs.declared.pages.Flag.{Flag}
use Rattle.fbc_kinds.specs.declared.pages.Flag.TheVariants.{Empty, Primary, Deletion, Back}
use Rattle.fbc_kinds.specs.Head.{is_zeros, little_bytes, number_at, number_in}
use Rattle.fbc_kinds.specs.Limits.{number_limit}
use Rattle.fbc_kinds.specs.Padding.{padded}
use Rattle.fbc_kinds.specs.DataSpelling.{IsCell, IsContent, IsVersion, SpellsCell, empty_cell, flag_code, has_bad_length, has_stray_back, has_unknown_flag, is_bad_cell, is_bad_version}
use Rattle.fbc_cells.proofs.NumberBytes.{AreNumbers, high_fits, low_fits, middle_fits}
use Rattle.fbc_cells.proofs.OnePage.{same_cell}
use Rattle.fbc_kinds.proofs.Heads.{FourFail, four_fail, is_zeros-replicate, true_from_not, zeros-is_zeros}
use Rattle.fbc_kinds.proofs.Numbers.{length-range}

-- Two bytes of zeros hold zero.
zero_of_zeros : (from : ℕ) (bytes : List ℕ) → from + 2 ≤ length bytes → is_zeros (slice_range bytes from (from + 2)) ≡ true → number_at from (from + 2) bytes ≡ 0
zero_of_zeros from bytes within zeros =
    let long : length (slice_range bytes from (from + 2)) ≡ 2 = length-range from (from + 2) bytes within ∙ omega arith in
    ap (number_in 256) (zeros-is_zeros (slice_range bytes from (from + 2)) zeros ∙ ap (λ n. replicate n 0) long)

-- What is not zero is above zero.
some_number : (n : ℕ) → (n ≡ 0 → ⊥) → 0 < n
some_number zero some = absurd (some refl)
some_number (suc n) some = omega arith

-- What a version that is not bad keeps to.
pub record IsFair (greatest : ℕ) (bytes : List ℕ) : Type 0 where
  pub right_length : has_bad_length greatest bytes ≡ false
  pub numbered : is_zeros (slice_range bytes 4 8) ≡ false
  pub tail : is_zeros (drop (12 + slice_index bytes 1) bytes) ≡ true
  pub back : has_stray_back bytes ≡ false

pub IsFair-version : (greatest : ℕ) (bytes : List ℕ) → is_bad_version greatest bytes ≡ false → IsFair greatest bytes
IsFair-version greatest bytes fair =
    let fails = four_fail (has_bad_length greatest bytes) (is_zeros (slice_range bytes 4 8)) (not (is_zeros (drop (12 + slice_index bytes 1) bytes))) (has_stray_back bytes) fair in
    record {
      right_length = fails.first;
      numbered = fails.second;
      tail = true_from_not (is_zeros (drop (12 + slice_index bytes 1) bytes)) fails.third;
      back = fails.fourth;
    }

-- An empty cell that is not bad has only zeros.
pub empty_zeros : (greatest : ℕ) (bytes : List ℕ) → slice_index bytes 0 ≡ 0 → is_bad_cell greatest bytes ≡ false → bytes ≡ replicate (length bytes) 0
empty_zeros greatest bytes none fair =
    let zeros : not (is_zeros bytes) ≡ false = rw none at fair in
    zeros-is_zeros bytes (true_from_not (is_zeros bytes) zeros)

-- A number above zero is not zero.
pub not_zero : (n : ℕ) → 0 < n → (n == 0) ≡ false
not_zero n some = grind (arith, nat_tests)

-- A cell with another flag is a version.
pub fair_version : (greatest : ℕ) (bytes : List ℕ) → 0 < slice_index bytes 0 → is_bad_cell greatest bytes ≡ false → IsFair greatest bytes
fair_version greatest bytes some fair =
    let other = not_zero (slice_index bytes 0) some in
    IsFair-version greatest bytes (rw other at fair)

-- A deletion without a fault has no value.
deletion_length : (greatest code size : ℕ) → code ≡ 2 → (if code == 2 then not (size == 0) else size == 0 || nat_lt greatest size) ≡ false → size ≡ 0
deletion_length greatest code size is fair = grind (arith, nat_tests)

-- Another version without a fault has a value of a byte or more.
value_length : (greatest code size : ℕ) → code ≢ 2 → (if code == 2 then not (size == 0) else size == 0 || nat_lt greatest size) ≡ false → (0 < size) × (size ≤ greatest)
value_length greatest code size is fair = grind (arith, nat_tests)

-- A version without a fault names a back cell only together with a back page.
back_named : (page cell : Bool) → (page && not cell) ≡ false → page ≡ true → cell ≡ true
back_named true true fair named = refl
back_named true false fair named = cc
back_named false cell fair named = cc

-- The cell that stands in these bytes, with this flag.
abbrev pub cell_in : Flag → List ℕ → Cell
cell_in flag bytes = record {
  flag = flag;
  number = number_at 4 8 bytes;
  back_page = number_at 8 12 bytes;
  back_cell = number_at 2 4 bytes;
  value = take (slice_index bytes 1) (drop 12 bytes);
}

-- A range of zeros.
range_zeros : (n from k : ℕ) → from + k ≤ n → take k (drop from (replicate {A = ℕ} n 0)) ≡ replicate {A = ℕ} k 0
range_zeros n from k within = ap (take k) (drop-replicate from n 0) ∙ take-replicate k (n - from) 0 (omega arith)

-- The second byte of zeros.
first_zero : (n : ℕ) → 12 ≤ n → get_or (replicate {A = ℕ} n 0) 1 0 ≡ 0
first_zero n long = get_or-replicate n 1 0 0 (omega arith)

-- Zeros are read as a cell that holds nothing.
pub empty_read : (n : ℕ) → 12 ≤ n → cell_in Empty (replicate {A = ℕ} n 0) ≡ empty_cell
empty_read n long =
    same_cell Empty Empty (number_at 4 8 (replicate {A = ℕ} n 0)) 0 (number_at 8 12 (replicate {A = ℕ} n 0)) 0 (number_at 2 4 (replicate {A = ℕ} n 0)) 0 (take (get_or (replicate {A = ℕ} n 0) 1 0) (drop 12 (replicate {A = ℕ} n 0))) []
    refl (ap (number_in 256) (range_zeros n 4 4 (omega arith))) (ap (number_in 256) (range_zeros n 8 4 (omega arith)))
    (ap (number_in 256) (range_zeros n 2 2 (omega arith))) (ap (λ k. take k (drop 12 (replicate {A = ℕ} n 0))) (first_zero n long))

module _ (greatest : ℕ) (bytes : List ℕ) (numbers : AreNumbers bytes) (long : length bytes ≡ 12 + greatest) (fair : is_bad_cell greatest bytes ≡ false) where
  -- Where a value of `size` bytes is followed by zeros, the bytes are the padded value.
  value_padded : slice_index bytes 1 ≤ greatest → is_zeros (drop (12 + slice_index bytes 1) bytes) ≡ true → drop 12 bytes ≡ padded greatest (take (slice_index bytes 1) (drop 12 bytes))
  value_padded within tail =
      let size = slice_index bytes 1 in
      let room : size ≤ length (drop 12 bytes) = omega (arith, length-drop 12 bytes) in
      let left : length (drop (12 + size) bytes) ≡ greatest - length (take size (drop 12 bytes)) = omega (arith, length-drop (12 + size) bytes, length-take-le size (drop 12 bytes) room) in
      sym (take-append-drop size (drop 12 bytes))
      ∙ ap (λ rest. take size (drop 12 bytes) ++ rest) (drop-drop size 12 bytes ∙ zeros-is_zeros (drop (12 + size) bytes) tail ∙ ap (λ n. replicate n 0) left)

  -- The cell that is read is spelled by the bytes.
  pub spelled_by : (flag : Flag) → flag_code flag ≡ slice_index bytes 0 → slice_index bytes 1 ≤ greatest → is_zeros (drop (12 + slice_index bytes 1) bytes) ≡ true → SpellsCell greatest (cell_in flag bytes) bytes
  spelled_by flag is within tail = record {
    flag_is = sym is;
    length_is = sym (length-take-le (slice_index bytes 1) (drop 12 bytes) (omega (arith, length-drop 12 bytes)));
    back_cell_is = numbers.low;
    number_is = numbers.middle;
    back_page_is = numbers.high;
    value_is = value_padded within tail;
  }

  -- A version that is not bad has a number, and names no back cell without a back page.
  version_in : (flag : Flag) → IsFair greatest bytes → IsVersion (cell_in flag bytes)
  version_in flag is = record {
    numbered = some_number (number_at 4 8 bytes) (λ none. let zeros : is_zeros (slice_range bytes 4 8) ≡ true = ap is_zeros (numbers.middle ∙ ap (little_bytes 4) none) in cc (zeros, is.numbered));
    number_fits = middle_fits bytes numbers;
    back_page_fits = high_fits bytes numbers;
    back_cell_fits = low_fits bytes numbers;
    back = λ none. zero_of_zeros 2 bytes (omega arith) (back_named (is_zeros (slice_range bytes 8 12)) (is_zeros (slice_range bytes 2 4)) is.back (ap is_zeros (numbers.high ∙ ap (little_bytes 4) none)));
  }

  -- The cell that is read is within its limits and spelled by the bytes.
  pub record IsRead (flag : Flag) : Type 0 where
    pub fits : IsCell greatest (cell_in flag bytes)
    pub spelled : SpellsCell greatest (cell_in flag bytes) bytes

  pub cell_read : (flag : Flag) → flag_code flag ≡ slice_index bytes 0 → IsRead flag
  cell_read Empty is =
      let zeros = empty_zeros greatest bytes (sym is) fair in
      let none = first_zero (length bytes) (omega arith) in
      let size : slice_index bytes 1 ≡ 0 = ap (λ bs. get_or bs 1 0) zeros ∙ none in
      let tail : is_zeros (drop (12 + slice_index bytes 1) bytes) ≡ true =
      ap (λ bs. is_zeros (drop (12 + slice_index bytes 1) bs)) zeros
      ∙ ap is_zeros (drop-replicate (12 + slice_index bytes 1) (length bytes) 0)
      ∙ is_zeros-replicate (length bytes - (12 + slice_index bytes 1)) in
      record { fits = ap (cell_in Empty) zeros ∙ empty_read (length bytes) (omega arith); spelled = spelled_by Empty is (omega arith) tail }
  cell_read Primary is =
      let version = fair_version greatest bytes (omega (arith, is)) fair in
      let size = value_length greatest (slice_index bytes 0) (slice_index bytes 1) (λ two. omega arith) version.right_length in
      let long_value = length-take-le (slice_index bytes 1) (drop 12 bytes) (omega (arith, size.1, length-drop 12 bytes)) in
      record { fits = (version_in Primary version, omega (arith, size.0), omega (arith, size.1)); spelled = spelled_by Primary is size.1 version.tail }
  cell_read Deletion is =
      let version = fair_version greatest bytes (omega (arith, is)) fair in
      let size = deletion_length greatest (slice_index bytes 0) (slice_index bytes 1) (sym is) version.right_length in
      record { fits = (version_in Deletion version, ap (λ n. take n (drop 12 bytes)) size); spelled = spelled_by Deletion is (omega arith) version.tail }
  cell_read Back is =
      let version = fair_version greatest bytes (omega (arith, is)) fair in
      let size = value_length greatest (slice_index bytes 0) (slice_index bytes 1) (λ two. omega arith) version.right_length in
      let long_value = length-take-le (slice_index bytes 1) (drop 12 bytes) (omega (arith, size.1, length-drop 12 bytes)) in
      record { fits = (version_in Back version, omega (arith, size.0), omega (arith, size.1)); spelled = spelled_by Back is size.1 version.tail }
