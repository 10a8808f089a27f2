-- Lists of bytes, parts of them, and the length of a page's bytes.
use Rattle.std.proofs.Common.{◌≡◌, ◌<◌, ◌≤◌, ◌+◌, ◌-◌, ◌*◌, ℕ, zero, suc, Bool, true, List, [], ◌∷◌, length, take, drop, get_or, replicate, nat_lt, sym, ap, ◌∙◌, inl, inr, refl, length-append, arith}
use Rattle.std.specs.Prelude.{slice_index}
use Rattle.std.specs.List.{list_all}
use Rattle.std.proofs.lemmas.Bool.{cases_lt}
use Rattle.std.proofs.lemmas.Bool.Decides.{nat_tests}
use Rattle.std.proofs.lemmas.List.{get_or-drop, get_or-replicate, get_or_append_left, get_or-append-add, get_or_past, length-take, length-replicate}
use Rattle.fbc_kinds.specs.File.{page_bytes}
use Rattle.fbc_kinds.specs.Padding.{padded}
use Rattle.fbc_kinds.proofs.Heads.{both_pass}

-- Each of these numbers is one that a byte can have.
abbrev pub AreBytes : List ℕ → Type 0
AreBytes bytes = (i : ℕ) → slice_index bytes i < 256

-- The same as a test.
abbrev pub are_bytes : List ℕ → Bool
are_bytes bytes = list_all (λ byte. nat_lt byte 256) bytes

byte_from_test : (n : ℕ) → nat_lt n 256 ≡ true → n < 256
byte_from_test n passes = grind (arith, nat_tests)

test_of_byte : (n : ℕ) → n < 256 → nat_lt n 256 ≡ true
test_of_byte n small = grind (arith, nat_tests)

pub bytes_from_test : (bytes : List ℕ) → are_bytes bytes ≡ true → AreBytes bytes
bytes_from_test [] passes i = omega arith
bytes_from_test (b ∷ bytes) passes zero = byte_from_test b (both_pass (nat_lt b 256) (are_bytes bytes) passes).0
bytes_from_test (b ∷ bytes) passes (suc i) = bytes_from_test bytes (both_pass (nat_lt b 256) (are_bytes bytes) passes).1 i

pub test_of_bytes : (bytes : List ℕ) → AreBytes bytes → are_bytes bytes ≡ true
test_of_bytes [] small = refl
test_of_bytes (b ∷ bytes) small = rw (test_of_byte b (small 0), test_of_bytes bytes (λ i. small (suc i))) refl

pub bytes_from : (n : ℕ) (bytes : List ℕ) → AreBytes bytes → AreBytes (drop n bytes)
bytes_from n bytes small i = rw (get_or-drop n bytes i 0) (small (n + i))

pub zeros_small : (n i : ℕ) → get_or (replicate {A = ℕ} n 0) i 0 < 256
zeros_small n i =
    elim (cases_lt i n) [
      | inl below ↦ rw (get_or-replicate {A = ℕ} n i 0 0 below) (omega arith)
      | inr past ↦ let short : length (replicate {A = ℕ} n 0) ≤ i = omega (arith, length-replicate {A = ℕ} n 0) in rw (get_or_past (replicate {A = ℕ} n 0) i 0 short) (omega arith)
    ]

pub padded_small : (width : ℕ) (text : List ℕ) → AreBytes text → AreBytes (padded width text)
padded_small width text small i =
    elim (cases_lt i (length text)) [
      | inl below ↦ rw (get_or_append_left text (replicate (width - length text) 0) 0 i below) (small i)
      | inr past ↦
          let place : length text + (i - length text) ≡ i = omega arith in
          let is = ap (λ n. get_or (padded width text) n 0) (sym place) ∙ get_or-append-add text (replicate (width - length text) 0) (i - length text) 0 in
          rw is (zeros_small (width - length text) (i - length text))
    ]

-- The bytes of a page have its size.
pub length-page_bytes : (size : ℕ) (bytes : List ℕ) (number : ℕ) → length (page_bytes size bytes number) ≡ size
length-page_bytes size bytes number =
    let text : List ℕ = take size (drop (number * size) bytes) in
    omega (arith, length-append text (replicate (size - length text) 0), length-replicate {A = ℕ} (size - length text) 0, length-take size (drop (number * size) bytes))
