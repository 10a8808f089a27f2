use Rattle.std.proofs.Common.{◌≡◌, ◌+◌, ◌-◌, ◌*◌, ◌<◌, ◌≤◌, ℕ, zero, suc, List, ◌++◌, length, get_or, take, drop, refl, sym, ap, ◌∙◌, inl, inr, arith}
use Rattle.std.specs.Prelude.{slice_range}
use Rattle.std.proofs.lemmas.Bool.{cases_lt}
use Rattle.std.proofs.lemmas.List.{take_more_same, same_lists, get_or_default, get_or-take, length-take, length-drop, take-take, drop-drop}
use Rattle.std.proofs.Math.Seq.{take-add}
use Rattle.std.proofs.Math.Nat.{mul-suc}
use Rattle.fbc_kinds.specs.Head.{HasHead}
use Rattle.fbc_kinds.proofs.Heads.{range-take, range-same_front}

-- Fronts that agree, and agree on the range after them, agree with that range.
pub same_front-range : (m n : ℕ) (a b : List ℕ) → take m a ≡ take m b → slice_range a m (m + n) ≡ slice_range b m (m + n) → take (m + n) a ≡ take (m + n) b
same_front-range m n a b front range =
    let width : m + n - m ≡ n = omega arith in
    let part : take n (drop m a) ≡ take n (drop m b) = rw width at range in
    take-add m n a ∙ ap (λ (x : List ℕ). x ++ take n (drop m a)) front ∙ ap (λ (x : List ℕ). take m b ++ x) part ∙ sym (take-add m n b)

-- Bytes with a head are at least 16.
pub head_is_whole : (kind relation page sequence : ℕ) (bytes : List ℕ) → HasHead kind relation page sequence bytes → 16 ≤ length bytes
head_is_whole kind relation page sequence bytes head =
    let four : length (slice_range bytes 12 16) ≡ 4 = ap length head.zeros in
    omega (arith, length-take 4 (drop 12 bytes), length-drop 12 bytes)

-- Two texts that carry one head agree on their first 16 bytes.
pub same_front-head : (kind relation page sequence : ℕ) (a b : List ℕ) → HasHead kind relation page sequence a → HasHead kind relation page sequence b → take 16 a ≡ take 16 b
same_front-head kind relation page sequence a b x y =
    let la = head_is_whole kind relation page sequence a x in
    let lb = head_is_whole kind relation page sequence b y in
    let one = take_more_same a b 0 0 (omega arith) (omega arith) refl (x.kind_is ∙ sym y.kind_is) in
    let two = take_more_same a b 1 0 (omega arith) (omega arith) one (x.one ∙ sym y.one) in
    let four = same_front-range 2 2 a b two (x.relation_is ∙ sym y.relation_is) in
    let eight = same_front-range 4 4 a b four (x.page_is ∙ sym y.page_is) in
    let twelve = same_front-range 8 4 a b eight (x.sequence_is ∙ sym y.sequence_is) in
    same_front-range 12 4 a b twelve (x.zeros ∙ sym y.zeros)

-- Texts that agree on their heads and on each byte after it agree on each byte.
same_byte : (size : ℕ) (a b : List ℕ) → take 16 a ≡ take 16 b → ((k : ℕ) → k < size - 16 → get_or a (16 + k) 0 ≡ get_or b (16 + k) 0) → (k : ℕ) → k < size → get_or a k 0 ≡ get_or b k 0
same_byte size a b heads rest k below =
    elim (cases_lt k 16) [
      | inl early ↦ sym (get_or-take 16 a k 0 early) ∙ ap (λ (x : List ℕ). get_or x k 0) heads ∙ get_or-take 16 b k 0 early
      | inr late ↦ let place : 16 + (k - 16) ≡ k = omega arith in
          let here : get_or a (16 + (k - 16)) 0 ≡ get_or b (16 + (k - 16)) 0 = rest (k - 16) (omega arith) in
          rw place at here
    ]

-- Texts of one length that agree on their heads and on each byte after it are equal.
pub same_pages : (size : ℕ) (a b : List ℕ) → length a ≡ size → length b ≡ size → take 16 a ≡ take 16 b → ((k : ℕ) → k < size - 16 → get_or a (16 + k) 0 ≡ get_or b (16 + k) 0) → a ≡ b
same_pages size a b la lb heads rest = same_lists a b (la ∙ sym lb) (λ k d below.
    get_or_default a k d 0 below ∙ same_byte size a b heads rest k (omega arith) ∙ get_or_default b k 0 d (omega arith))

-- A range within a range is a range of the whole.
pub range_in : (low high from to : ℕ) (bytes : List ℕ) → low + to ≤ high → slice_range (slice_range bytes low high) from to ≡ slice_range bytes (low + from) (low + to)
range_in low high from to bytes within =
    let width : low + to - (low + from) ≡ to - from = omega arith in
    range-take (high - low) from to (drop low bytes) (omega arith)
    ∙ ap (λ (rest : List ℕ). take (to - from) rest) (drop-drop from low bytes)
    ∙ ap (λ (n : ℕ). take n (drop (low + from) bytes)) (sym width)

-- Fronts that agree agree on a shorter front.
pub same_front-shorter : (m n : ℕ) (a b : List ℕ) → m ≤ n → take n a ≡ take n b → take m a ≡ take m b
same_front-shorter m n a b within same = sym (take-take m n a within) ∙ ap (λ (x : List ℕ). take m x) same ∙ take-take m n b within

-- Ends that agree agree on a shorter end.
pub same_end-shorter : (m n : ℕ) (a b : List ℕ) → m ≤ n → drop m a ≡ drop m b → drop n a ≡ drop n b
same_end-shorter m n a b within same =
    let place : m + (n - m) ≡ n = omega arith in
    let here : drop (m + (n - m)) a ≡ drop (m + (n - m)) b = sym (drop-drop (n - m) m a) ∙ ap (λ (x : List ℕ). drop (n - m) x) same ∙ drop-drop (n - m) m b in
    rw place at here

-- Pieces that were there stay, and one more is there.
pub pieces_more : {X : Type 0} (P : X → List ℕ → Type 0) (items : ℕ → X) (from : ℕ → ℕ) (width i : ℕ) (old new : List ℕ) → ((j : ℕ) → j < i → from j + width ≤ from i) → take (from i) new ≡ take (from i) old → P (items i) (slice_range new (from i) (from i + width)) → ((j : ℕ) → j < i → P (items j) (slice_range old (from j) (from j + width))) → (j : ℕ) → j < i + 1 → P (items j) (slice_range new (from j) (from j + width))
pieces_more P items from width i old new order same here before j below =
    elim (cases_lt j i) [
      | inl earlier ↦ let stays = range-same_front (from i) (from j) (from j + width) old new (order j earlier) same in rw stays (before j earlier)
      | inr late ↦ let place : j ≡ i = omega arith in rw place here
    ]

-- Fronts that agree, and agree on each of the pieces after them, agree with those pieces.
pub same_front-pieces : (from width count : ℕ) (a b : List ℕ) → take from a ≡ take from b → ((i : ℕ) → i < count → slice_range a (from + width * i) (from + width * i + width) ≡ slice_range b (from + width * i) (from + width * i + width)) → take (from + width * count) a ≡ take (from + width * count) b
same_front-pieces from width zero a b front pieces =
    let nothing : from + width * zero ≡ from = omega arith in
    rw nothing front
same_front-pieces from width (suc count) a b front pieces =
    let before = same_front-pieces from width count a b front (λ i below. pieces i (omega arith)) in
    let place : from + width * suc count ≡ from + width * count + width = omega (arith, mul-suc width count) in
    rw place (same_front-range (from + width * count) width a b before (pieces count (omega arith)))
