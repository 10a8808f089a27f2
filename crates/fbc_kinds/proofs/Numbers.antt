use Rattle.std.proofs.Common.{◌≡◌, ◌+◌, ◌*◌, ◌-◌, ◌/◌, ◌%◌, ◌^◌, ◌<◌, ◌≤◌, ℕ, List, [], ◌∷◌, length, get_or, take, drop, ap, sym, ◌∙◌, inl, inr, arith}
use Rattle.std.specs.Prelude.{slice_range}
use Rattle.std.proofs.lemmas.List.{get_or-take, get_or-drop, get_or_past, length-take, length-drop}
use Rattle.std.proofs.lemmas.Bool.{cases_lt}
use Rattle.fbc_kinds.specs.Head.{number_in, little_bytes, number_at}

-- The bytes of a number of two bytes spell it.
pub number_in-little_2 : (n : ℕ) → n < 2 ^ 16 → number_in 256 (little_bytes 2 n) ≡ n
number_in-little_2 n fits = omega arith

-- The bytes of a number of four bytes spell it.
pub number_in-little_4 : (n : ℕ) → n < 2 ^ 32 → number_in 256 (little_bytes 4 n) ≡ n
number_in-little_4 n fits = omega arith

-- No two numbers of two bytes have the same bytes.
pub same_number_2 : (m n : ℕ) → m < 2 ^ 16 → n < 2 ^ 16 → little_bytes 2 m ≡ little_bytes 2 n → m ≡ n
same_number_2 m n fits fits' same = sym (number_in-little_2 m fits) ∙ ap (number_in 256) same ∙ number_in-little_2 n fits'

-- No two numbers of four bytes have the same bytes.
pub same_number_4 : (m n : ℕ) → m < 2 ^ 32 → n < 2 ^ 32 → little_bytes 4 m ≡ little_bytes 4 n → m ≡ n
same_number_4 m n fits fits' same = sym (number_in-little_4 m fits) ∙ ap (number_in 256) same ∙ number_in-little_4 n fits'

-- Two bytes are the bytes of their number.
pub little_2-number_in : (bytes : List ℕ) → length bytes ≡ 2 → ((i : ℕ) → get_or bytes i 0 < 256) → little_bytes 2 (number_in 256 bytes) ≡ bytes
little_2-number_in [] count small = absurd (omega arith)
little_2-number_in (a ∷ []) count small = absurd (omega arith)
little_2-number_in (a ∷ (b ∷ [])) count small =
    let ha : a < 256 = small 0 in
    let hb : b < 256 = small 1 in
    let p : (a + 256 * (b + 256 * 0)) % 256 ≡ a = omega arith in
    let q : (a + 256 * (b + 256 * 0)) / 256 % 256 ≡ b = omega arith in
    cc
little_2-number_in (a ∷ (b ∷ (c ∷ rest))) count small = absurd (omega arith)

-- Four bytes are the bytes of their number.
pub little_4-number_in : (bytes : List ℕ) → length bytes ≡ 4 → ((i : ℕ) → get_or bytes i 0 < 256) → little_bytes 4 (number_in 256 bytes) ≡ bytes
little_4-number_in [] count small = absurd (omega arith)
little_4-number_in (a ∷ []) count small = absurd (omega arith)
little_4-number_in (a ∷ (b ∷ [])) count small = absurd (omega arith)
little_4-number_in (a ∷ (b ∷ (c ∷ []))) count small = absurd (omega arith)
little_4-number_in (a ∷ (b ∷ (c ∷ (d ∷ [])))) count small =
    let ha : a < 256 = small 0 in
    let hb : b < 256 = small 1 in
    let hc : c < 256 = small 2 in
    let hd : d < 256 = small 3 in
    let n : ℕ = a + 256 * (b + 256 * (c + 256 * (d + 256 * 0))) in
    let p : n % 256 ≡ a = omega arith in
    let q : n / 256 % 256 ≡ b = omega arith in
    let r : n / 65536 % 256 ≡ c = omega arith in
    let s : n / 16777216 % 256 ≡ d = omega arith in
    cc
little_4-number_in (a ∷ (b ∷ (c ∷ (d ∷ (e ∷ rest))))) count small = absurd (omega arith)

-- Each item of a range of bytes is a byte.
pub range_small : (from to : ℕ) (bytes : List ℕ) → ((i : ℕ) → get_or bytes i 0 < 256) → (i : ℕ) → get_or (slice_range bytes from to) i 0 < 256
range_small from to bytes small i =
    elim (cases_lt i (to - from)) [
      | inl below ↦ rw (get_or-take (to - from) (drop from bytes) i 0 below, get_or-drop from bytes i 0) (small (from + i))
      | inr past ↦ let short : length (take (to - from) (drop from bytes)) ≤ i = omega (arith, length-take (to - from) (drop from bytes)) in rw (get_or_past (take (to - from) (drop from bytes)) i 0 short) (omega arith)
    ]

-- How long a range is.
pub length-range : (from to : ℕ) (bytes : List ℕ) → to ≤ length bytes → length (slice_range bytes from to) ≡ to - from
length-range from to bytes fits = omega (arith, length-take (to - from) (drop from bytes), length-drop from bytes)

-- A range of two bytes holds the bytes of its number.
pub little_2-number_at : (from : ℕ) (bytes : List ℕ) → ((i : ℕ) → get_or bytes i 0 < 256) → from + 2 ≤ length bytes → slice_range bytes from (from + 2) ≡ little_bytes 2 (number_at from (from + 2) bytes)
little_2-number_at from bytes small fits =
    sym (little_2-number_in (slice_range bytes from (from + 2)) (length-range from (from + 2) bytes fits ∙ omega arith) (range_small from (from + 2) bytes small))

-- A range of four bytes holds the bytes of its number.
pub little_4-number_at : (from : ℕ) (bytes : List ℕ) → ((i : ℕ) → get_or bytes i 0 < 256) → from + 4 ≤ length bytes → slice_range bytes from (from + 4) ≡ little_bytes 4 (number_at from (from + 4) bytes)
little_4-number_at from bytes small fits =
    sym (little_4-number_in (slice_range bytes from (from + 4)) (length-range from (from + 4) bytes fits ∙ omega arith) (range_small from (from + 4) bytes small))

-- Two bytes make a number below 2 ^ 16.
number_in-small_2 : (bytes : List ℕ) → length bytes ≡ 2 → ((i : ℕ) → get_or bytes i 0 < 256) → number_in 256 bytes < 2 ^ 16
number_in-small_2 [] count small = absurd (omega arith)
number_in-small_2 (a ∷ []) count small = absurd (omega arith)
number_in-small_2 (a ∷ (b ∷ [])) count small =
    let ha : a < 256 = small 0 in
    let hb : b < 256 = small 1 in
    omega arith
number_in-small_2 (a ∷ (b ∷ (c ∷ rest))) count small = absurd (omega arith)

-- Four bytes make a number below 2 ^ 32.
number_in-small_4 : (bytes : List ℕ) → length bytes ≡ 4 → ((i : ℕ) → get_or bytes i 0 < 256) → number_in 256 bytes < 2 ^ 32
number_in-small_4 [] count small = absurd (omega arith)
number_in-small_4 (a ∷ []) count small = absurd (omega arith)
number_in-small_4 (a ∷ (b ∷ [])) count small = absurd (omega arith)
number_in-small_4 (a ∷ (b ∷ (c ∷ []))) count small = absurd (omega arith)
number_in-small_4 (a ∷ (b ∷ (c ∷ (d ∷ [])))) count small =
    let ha : a < 256 = small 0 in
    let hb : b < 256 = small 1 in
    let hc : c < 256 = small 2 in
    let hd : d < 256 = small 3 in
    omega arith
number_in-small_4 (a ∷ (b ∷ (c ∷ (d ∷ (e ∷ rest))))) count small = absurd (omega arith)

-- A range of two bytes makes a number below 2 ^ 16.
pub number_at-small_2 : (from : ℕ) (bytes : List ℕ) → ((i : ℕ) → get_or bytes i 0 < 256) → from + 2 ≤ length bytes → number_at from (from + 2) bytes < 2 ^ 16
number_at-small_2 from bytes small fits =
    number_in-small_2 (slice_range bytes from (from + 2)) (length-range from (from + 2) bytes fits ∙ omega arith) (range_small from (from + 2) bytes small)

-- A range of four bytes makes a number below 2 ^ 32.
pub number_at-small_4 : (from : ℕ) (bytes : List ℕ) → ((i : ℕ) → get_or bytes i 0 < 256) → from + 4 ≤ length bytes → number_at from (from + 4) bytes < 2 ^ 32
number_at-small_4 from bytes small fits =
    number_in-small_4 (slice_range bytes from (from + 4)) (length-range from (from + 4) bytes fits ∙ omega arith) (range_small from (from + 4) bytes small)
