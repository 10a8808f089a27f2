-- Bytes that are lengthened by zeros and then written over.
use Rattle.std.proofs.Common.{◌≡◌, ℕ, ◌+◌, ◌-◌, List, ◌++◌, length, take, drop, replicate, arith, rules}
use Rattle.std.proofs.lemmas.List.{take_at, same_lists, places}
use Rattle.fbc_outside.specs.Bytes.{written}

-- The bytes with zeros up to the end of what is to be written.
abbrev pub grown : ℕ → List ℕ → List ℕ → List ℕ
grown at from bytes = bytes ++ replicate (at + length from - length bytes) 0

-- Zeros up to the end of what is written, and then the bytes in their place.
written_over_zeros : (at : ℕ) (from bytes : List ℕ) → take at (grown at from bytes) ++ from ++ drop (at + length from) (grown at from bytes) ≡ written at from bytes
written_over_zeros at from bytes = same_lists _ _ (search (rules, places)) (λ k d h. grind (arith, places))

-- The same behind a borrow of the lengthened bytes, as many of which are taken back.
pub put_back : (at n : ℕ) (from bytes lent over rest : List ℕ) → lent ≡ grown at from bytes → over ≡ take at lent ++ from ++ drop (at + length from) lent → length over ≡ n → take n (over ++ rest) ≡ written at from bytes
put_back at n from bytes lent over rest l o e =
    let back : take n (over ++ rest) ≡ over = take_at over rest n e in
    let put : take at (grown at from bytes) ++ from ++ drop (at + length from) (grown at from bytes) ≡ written at from bytes = written_over_zeros at from bytes in
    cc
