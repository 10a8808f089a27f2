-- The numbers of scripts are spelled as they are printed.
use Rattle.std.proofs.Common.{◌≡◌, ℕ, ◌+◌, ◌-◌, ◌*◌, ◌<◌, ◌≤◌, ◌^◌, Bool, true, false, not, ◌&&◌, ◌==◌, nat_le, if◌then◌else◌, List, [], ◌∷◌, length, get_or, fold, Some, None, decimal, refl, sym, ap, ◌∙◌, rules, arith}
use Rattle.std.proofs.lemmas.Bool.{leb-true, eqb-true, and_parts}
use Rattle.std.proofs.lemmas.Bool.Decides.{nat_tests}
use Rattle.std.proofs.lemmas.Str.Parse.{IsNumeralModel, numerals_by_fold}
use Rattle.std.proofs.lemmas.Fmt.{decimal-digits_value, decimal_digit}
use Rattle.std.specs.List.{list_all}
use Rattle.std.proofs.lemmas.Option.{cond_some}
use Rattle.fbc_script.specs.Numbers.{is_digit, value_of, is_number, number_of}
use Rattle.fbc_script.specs.Words.{attachment_of}

-- A number of digits behind others.
abbrev onto_value : ℕ → List ℕ → ℕ
onto_value value digits = fold (λ before digit. before * 10 + (digit - 48)) value digits

numerals : IsNumeralModel (λ digits. list_all is_digit digits ≡ true) (onto_value 0)
numerals = numerals_by_fold _ (search rules) onto_value (search rules)

-- A number has digits, and begins with `0` only if it is that.
record IsPlain (word : List ℕ) : Type 0 where
  digits : list_all is_digit word ≡ true
  some : 0 < length word
  alone : get_or word 0 0 ≡ 48 → length word ≡ 1

leads : (digit : ℕ) → digit ≡ 48 → not (digit == 48) ≡ true → ⊥
leads digit zero other = grind (arith, nat_tests)

IsPlain-is_number : (word : List ℕ) → is_number word ≡ true → IsPlain word
IsPlain-is_number [] is = cc
IsPlain-is_number (digit ∷ []) is = record { digits = rw is refl; some = omega arith; alone = λ _. refl }
IsPlain-is_number (digit ∷ next ∷ digits) is =
    let both = and_parts (not (digit == 48)) (list_all is_digit (digit ∷ next ∷ digits)) is in
    record { digits = both.1; some = omega arith; alone = λ zero. absurd (leads digit zero both.0) }

pub decimal-number_of : (least most number : ℕ) (word : List ℕ) → most < 2 ^ 64 → number_of least most word ≡ Some number → word ≡ decimal number
decimal-number_of least most number word fits some =
    let found = cond_some (is_number word && nat_le least (value_of word) && nat_le (value_of word) most) (value_of word) number some in
    let tests = and_parts _ _ found.0 in
    let plain = IsPlain-is_number word (and_parts _ _ tests.0).0 in
    let small : value_of word ≤ most = leb-true _ _ tests.1 in
    sym (decimal-digits_value numerals word plain.digits plain.some plain.alone (omega arith)) ∙ ap decimal found.1

pub decimal-attachment_of : (word : List ℕ) (at : ℕ) → attachment_of word ≡ Some at → word ≡ 97 ∷ decimal at
decimal-attachment_of (letter ∷ digit ∷ []) at some =
    let found = cond_some (letter == 97 && nat_le 49 digit && nat_le digit 56) (digit - 48) at some in
    let tests = and_parts (letter == 97 && nat_le 49 digit) (nat_le digit 56) found.0 in
    let parts = and_parts (letter == 97) (nat_le 49 digit) tests.0 in
    let low : 49 ≤ digit = leb-true 49 digit parts.1 in
    let high : digit ≤ 56 = leb-true digit 56 tests.1 in
    let small : at < 10 = omega (arith, found.1) in
    let last : digit ≡ 48 + at = omega (arith, found.1) in
    rw (decimal_digit at small, eqb-true letter 97 parts.0, last) refl
decimal-attachment_of _ at some = cc
