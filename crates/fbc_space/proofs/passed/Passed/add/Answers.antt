-- Behind one page more stand zeros.
use Rattle.std.proofs.Common.{◌≡◌, ◌∙◌, ◌+◌, ◌-◌, ℕ, zero, suc, List, [], ◌∷◌, slice_set, replicate, drop, refl, sym, ap, subst, arith}
use Rattle.std.proofs.lemmas.Grind.{common_steps}
use Rattle.std.proofs.lemmas.List.{drop-replicate, drop-set-lt}
use Rattle.std.proofs.Math.Seq.{drop-nil}
use Rattle.fbc_space.proofs.passed.Passed.add.Goals as goal

one : (n : ℕ) → suc n + 1 ≡ suc (n + 1)
one n = omega arith

drop-more : (n : ℕ) (xs : List ℕ) → drop (n + 1) xs ≡ drop 1 (drop n xs)
drop-more zero xs = refl
drop-more (suc n) [] = drop-nil (suc n + 1) ∙ sym (ap (λ rest. drop 1 rest) (drop-nil (suc n)) ∙ drop-nil 1)
drop-more (suc n) (x ∷ xs) = ap (λ k. drop k (x ∷ xs)) (one n) ∙ drop-more n xs

zeros-behind : (pages : List ℕ) (count page : ℕ) → drop count pages ≡ replicate (16 - count) 0 → drop (count + 1) (slice_set pages count page) ≡ replicate (16 - (count + 1)) 0
zeros-behind pages count page zeros =
    drop-set-lt (count + 1) pages count page (grind arith) ∙ drop-more count pages ∙ ap (λ rest. drop 1 rest) zeros ∙ drop-replicate 1 (16 - count) 0
    ∙ ap (λ n. replicate n 0) (grind arith)

pub invariant_of-self : goal.invariant_of-self
invariant_of-self c = record {
  filled = grind (arith, common_steps, c.self.invariant.filled);
  within = grind (arith, common_steps, c.self.invariant.filled, c.len-count.ensures, c.if-count-eq-MOST_PASSED.false);
  zeros =
      let place : c.self.inside.count ≡ c.len-count.result = grind (arith, common_steps, c.len-count.ensures.count, c.self.invariant.within) in
      subst (λ n. drop (c.self.inside.count + 1) (slice_set c.self.inside.pages n c.args.page) ≡ replicate (16 - (c.self.inside.count + 1)) 0) place
      (zeros-behind c.self.inside.pages c.self.inside.count c.args.page c.self.invariant.zeros);
}
