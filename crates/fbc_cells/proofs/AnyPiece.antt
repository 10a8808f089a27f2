use Rattle.std.proofs.Common.{◌≡◌, ◌<◌, ◌≤◌, ◌+◌, ◌||◌, ℕ, zero, suc, Bool, true, false, List, refl, sym, ap, ◌∙◌, inl, inr, arith}
use Rattle.std.proofs.lemmas.Bool.{cases_lt}
use Rattle.std.proofs.Math.Numerals.{suc-eq-add-one}
use Rattle.fbc_kinds.specs.DataSpelling.{any_piece, piece}

-- One of two tests passes where the second does.
or_true : (a b : Bool) → b ≡ true → (a || b) ≡ true
or_true true b passes = refl
or_true false b passes = passes

-- One of two tests passes where the first does.
or_true_first : (a b : Bool) → a ≡ true → (a || b) ≡ true
or_true_first true b passes = refl
or_true_first false b passes = cc

-- None of two tests passes where each fails.
or_false : (a b : Bool) → a ≡ false → b ≡ false → (a || b) ≡ false
or_false false b first second = second
or_false true b first second = cc

-- Each of two tests fails where none passes.
both_fail : (a b : Bool) → (a || b) ≡ false → (a ≡ false) × (b ≡ false)
both_fail false b none = (refl, none)
both_fail true b none = cc

module _ (test : List ℕ → Bool) (width : ℕ) (bytes : List ℕ) where
  -- One piece more fails.
  pub any_piece_more : (k : ℕ) → any_piece test width k bytes ≡ false → test (piece width k bytes) ≡ false → any_piece test width (k + 1) bytes ≡ false
  unfolding any_piece
  any_piece_more k before here = rw (← suc-eq-add-one k) (or_false (any_piece test width k bytes) (test (piece width k bytes)) before here)

  -- A piece that passes is one of those.
  pub any_piece_here : (n k : ℕ) → k < n → test (piece width k bytes) ≡ true → any_piece test width n bytes ≡ true
  unfolding any_piece
  any_piece_here zero k inside here = absurd (omega arith)
  any_piece_here (suc n) k inside here =
      elim (cases_lt k n) [
        | inl below ↦ or_true_first (any_piece test width n bytes) (test (piece width n bytes)) (any_piece_here n k below here)
        | inr past ↦ let same : k ≡ n = omega arith in or_true (any_piece test width n bytes) (test (piece width n bytes)) (rw same at here)
      ]

  -- Where no piece passes, each one fails.
  pub any_piece_none : (n k : ℕ) → k < n → any_piece test width n bytes ≡ false → test (piece width k bytes) ≡ false
  unfolding any_piece
  any_piece_none zero k inside none = absurd (omega arith)
  any_piece_none (suc n) k inside none =
      let both = both_fail (any_piece test width n bytes) (test (piece width n bytes)) none in
      elim (cases_lt k n) [
        | inl below ↦ any_piece_none n k below both.0
        | inr past ↦ let same : n ≡ k = omega arith in rw same at both.1
      ]

  -- Where each piece fails, none passes.
  pub any_piece_all : (n : ℕ) → ((k : ℕ) → k < n → test (piece width k bytes) ≡ false) → any_piece test width n bytes ≡ false
  unfolding any_piece
  any_piece_all zero each = refl
  any_piece_all (suc n) each =
      or_false (any_piece test width n bytes) (test (piece width n bytes)) (any_piece_all n (λ k inside. each k (omega arith))) (each n (omega arith))
