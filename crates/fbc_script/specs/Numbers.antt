-- Numbers in scripts: `0`, or digits without a leading zero.
use Rattle.std.specs.Prelude.{ℕ, Bool, false, ◌==◌, ◌&&◌, ◌+◌, ◌-◌, ◌*◌, not, nat_le, List, [], ◌∷◌, Option, Some, None, if◌then◌else◌, fold}
use Rattle.std.specs.List.{list_all}

-- Digits are the bytes 48 to 57.
abbrev pub is_digit : ℕ → Bool
is_digit byte = nat_le 48 byte && nat_le byte 57

-- A number of digits, the first the highest.
abbrev pub value_of : List ℕ → ℕ
value_of digits = fold (λ value digit. value * 10 + (digit - 48)) 0 digits

-- Whether a word is `0`, or digits without a leading zero.
abbrev pub is_number : List ℕ → Bool
is_number [] = false
is_number (digit ∷ []) = is_digit digit
is_number (digit ∷ next ∷ digits) = not (digit == 48) && list_all is_digit (digit ∷ next ∷ digits)

-- The number that a word spells, where it lies in this range.
abbrev pub number_of : ℕ → ℕ → List ℕ → Option ℕ
number_of least most word =
    if is_number word && nat_le least (value_of word) && nat_le (value_of word) most then Some (value_of word) else None
