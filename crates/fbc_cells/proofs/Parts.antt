use Rattle.std.proofs.Common.{◌≡◌, ◌<◌, ◌≤◌, ◌+◌, ◌-◌, ◌*◌, ◌++◌, ℕ, List, [], length, take, drop, sym, ap, ◌∙◌, arith}
use Rattle.std.proofs.lemmas.List.{append-nil, drop_all, drop_at, drop-take, length-drop, length-take-le, take-append-le, take_at, take-take}
use Rattle.std.proofs.Math.Nat.{mul-le-mul_left}
use Rattle.fbc_kinds.specs.DataSpelling.{piece}

-- A write to the end of a list leaves what was written.
pub drop-written_end : (n k : ℕ) (xs ys : List ℕ) → n ≤ length xs → length xs - n ≤ k → drop n (take n xs ++ (ys ++ drop k (drop n xs))) ≡ ys
drop-written_end n k xs ys within whole =
    drop_at (take n xs) (ys ++ drop k (drop n xs)) n (length-take-le n xs within)
    ∙ ap (λ rest. ys ++ rest) (drop_all k (drop n xs) (omega (arith, length-drop n xs)))
    ∙ append-nil ys

-- What stands before a place is in the first elements.
slice-front : (n w a : ℕ) (xs rest : List ℕ) → n + w ≤ a → a ≤ length xs → take w (drop n (take a xs ++ rest)) ≡ take w (drop n xs)
slice-front n w a xs rest before within =
    let front : n + w ≤ length (take a xs) = omega (arith, length-take-le a xs within) in
    sym (drop-take n w (take a xs ++ rest))
    ∙ ap (drop n) (take-append-le (n + w) (take a xs) rest front ∙ take-take (n + w) a xs before)
    ∙ drop-take n w xs

-- A piece before the one that is written stays.
pub piece-written_before : (w k i : ℕ) (xs rest : List ℕ) → k < i → w * i ≤ length xs → piece w k (take (w * i) xs ++ rest) ≡ piece w k xs
piece-written_before w k i xs rest before within =
    let more : w * (k + 1) ≤ w * i = mul-le-mul_left w (omega arith) in
    slice-front (w * k) w (w * i) xs rest (omega arith) within

-- The piece that is written.
pub piece-written : (w i : ℕ) (xs ys rest : List ℕ) → w * i ≤ length xs → length ys ≡ w → piece w i (take (w * i) xs ++ (ys ++ rest)) ≡ ys
piece-written w i xs ys rest within whole =
    ap (take w) (drop_at (take (w * i) xs) (ys ++ rest) (w * i) (length-take-le (w * i) xs within)) ∙ take_at ys rest w whole
