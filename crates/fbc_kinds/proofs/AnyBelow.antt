use Rattle.std.proofs.Common.{◌≡◌, ◌+◌, ◌<◌, ℕ, zero, suc, Bool, true, false, refl, ap, ◌∙◌, inl, inr, arith}
use Rattle.std.proofs.lemmas.Bool.{cases_lt}
use Rattle.fbc_kinds.specs.Head.{any_below}
use Rattle.fbc_kinds.proofs.Tests.{both_fail, neither}

-- Below zero none passes.
pub any_below-zero : (test : ℕ → Bool) → any_below test 0 ≡ false
unfolding any_below
any_below-zero test = refl

-- One more that fails.
pub any_below-more : (test : ℕ → Bool) (n : ℕ) → any_below test n ≡ false → test n ≡ false → any_below test (n + 1) ≡ false
unfolding any_below
any_below-more test n none fails =
    let place : n + 1 ≡ suc n = omega arith in
    ap (any_below test) place ∙ neither (any_below test n) (test n) none fails

-- Where none passes, each one fails.
pub any_below-fails : (test : ℕ → Bool) (n : ℕ) → any_below test n ≡ false → (i : ℕ) → i < n → test i ≡ false
unfolding any_below
any_below-fails test zero none i below = absurd (omega arith)
any_below-fails test (suc n) none i below =
    let both = both_fail (any_below test n) (test n) none in
    elim (cases_lt i n) [
      | inl earlier ↦ any_below-fails test n both.0 i earlier
      | inr late ↦ let same : i ≡ n = omega arith in ap test same ∙ both.1
    ]

-- Where each one fails, none passes.
pub any_below-none : (test : ℕ → Bool) (n : ℕ) → ((i : ℕ) → i < n → test i ≡ false) → any_below test n ≡ false
unfolding any_below
any_below-none test zero each = refl
any_below-none test (suc n) each = neither (any_below test n) (test n) (any_below-none test n (λ i below. each i (omega arith))) (each n (omega arith))

-- A test that does not fail passes.
not_none : (b : Bool) → (b ≡ false → ⊥) → b ≡ true
not_none true some = refl
not_none false some = absurd (some refl)

-- One that passes is enough.
pub any_below-found : (test : ℕ → Bool) (n i : ℕ) → i < n → test i ≡ true → any_below test n ≡ true
any_below-found test n i below passes = not_none (any_below test n) (λ none. let fails = any_below-fails test n none i below in cc)
