use Rattle.std.proofs.Common.{◌≡◌, ◌≢◌, ◌+◌, ◌-◌, ◌<◌, ◌≤◌, ℕ, List, length, get_or, set, take, sym, ◌∙◌, ap, inl, inr, arith}
use Rattle.std.specs.Prelude.{slice_range}
use borrow.Rule.Slice.PartMut.{put_mid}
use Rattle.std.proofs.lemmas.Slice.{between-put_mid}
use Rattle.fbc_kinds.proofs.Heads.{range-same_front}
use Rattle.fbc_kinds.proofs.Pieces.{range_in}
use Rattle.std.proofs.lemmas.Bool.{cases_lt}
use Rattle.std.proofs.lemmas.List.{take-set-le, get_or-set_same, get_or-set_other}

-- A byte written past the head leaves the head.
pub head_stays : (old out : List ℕ) (k byte : ℕ) → take 16 out ≡ take 16 old → take 16 (set out (16 + k) byte) ≡ take 16 old
head_stays old out k byte same = take-set-le 16 out (16 + k) byte (omega arith) ∙ same

-- One more byte past the head is written.
pub bytes_more : (f : ℕ → ℕ) (out : List ℕ) (k byte : ℕ) → 16 + k < length out → byte ≡ f k → ((j : ℕ) → j < k → get_or out (16 + j) 0 ≡ f j) → (j : ℕ) → j < k + 1 → get_or (set out (16 + k) byte) (16 + j) 0 ≡ f j
bytes_more f out k byte room is before j below =
    elim (cases_lt j k) [
      | inl earlier ↦ let other : 16 + j ≢ 16 + k = omega arith in get_or-set_other out (16 + k) (16 + j) byte 0 other ∙ before j earlier
      | inr late ↦ let same : j ≡ k = omega arith in rw same (get_or-set_same out (16 + k) byte 0 room ∙ is)
    ]

-- A range of a part that was written is that range of what was written.
pub part_here : (at k from to : ℕ) (old part : List ℕ) → at ≤ length old → length part ≡ k → to ≤ k → slice_range (put_mid at k old part) (at + from) (at + to) ≡ slice_range part from to
part_here at k from to old part inside count within =
    let width : at + k - at ≡ k = omega arith in
    sym (range_in at (at + k) from to (put_mid at k old part) (omega arith))
    ∙ ap (λ (x : List ℕ). slice_range x from to) (between-put_mid at k old part (at + k) inside (count ∙ sym width))

-- A range of a part that was written, before another part was written after it.
pub part_before : (n at k from to : ℕ) (old part new : List ℕ) → take n new ≡ take n (put_mid at k old part) → at + to ≤ n → at ≤ length old → length part ≡ k → to ≤ k → slice_range new (at + from) (at + to) ≡ slice_range part from to
part_before n at k from to old part new same early inside count within =
    range-same_front n (at + from) (at + to) (put_mid at k old part) new early same ∙ part_here at k from to old part inside count within
