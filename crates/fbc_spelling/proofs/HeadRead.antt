-- What the head of a page that breaks no rule says.
use Rattle.std.proofs.Common.{◌≡◌, ◌<◌, ◌≤◌, ◌==◌, ℕ, Bool, true, false, not, List, length, replicate, None, Some, refl, subst, ap, ◌∙◌, if◌then◌else◌}
use Rattle.std.specs.Prelude.{slice_index, slice_range}
use Rattle.fbc_kinds.specs.declared.rules.Rule.TheVariants as rule
use Rattle.fbc_kinds.specs.Head.{HasHead, broken_head, has_bad_head, has_stray_relation, has_stray_sequence, is_zeros, little_bytes, page_in, relation_in, sequence_in}
use Rattle.fbc_kinds.specs.Limits.{number_limit}
use Rattle.fbc_kinds.proofs.Heads.{four_fail, no_stray_relation, true_from_not, zeros-is_zeros}
use Rattle.fbc_kinds.proofs.Numbers.{length-range}
use Rattle.fbc_kinds.proofs.Tests.{same_from_test}
use Rattle.fbc_cells.proofs.NumberBytes.{AreNumbers, high_fits, middle_fits}

-- What the tests of a head say where no rule is broken.
tests_pass : (a b c : Bool) → (if not a then Some rule.Kind else if b then Some rule.Head else if not c then Some rule.Number else None) ≡ None → (a ≡ true) × (b ≡ false) × (c ≡ true)
tests_pass true false true unbroken = (refl, refl, refl)
tests_pass true false false unbroken = cc
tests_pass true true c unbroken = cc
tests_pass false b c unbroken = cc

-- The head of a page of a kind and a number, and what it says.
pub record IsHead (kind page : ℕ) (bytes : List ℕ) : Type 0 where
  pub head : HasHead kind (relation_in bytes) page (sequence_in bytes) bytes
  pub page_fits : page < number_limit
  pub sequence_fits : sequence_in bytes < number_limit
  pub no_relation : kind ≤ 3 → relation_in bytes ≡ 0

pub head_read : (kind page : ℕ) (bytes : List ℕ) → AreNumbers bytes → 16 ≤ length bytes → broken_head kind page bytes ≡ None → IsHead kind page bytes
head_read kind page bytes numbers long unbroken =
    let pass = tests_pass (slice_index bytes 0 == kind) (has_bad_head kind bytes) (page_in bytes == page) unbroken in
    let own : page_in bytes ≡ page = same_from_test (page_in bytes) page pass.2 in
    let fails = four_fail (not (slice_index bytes 1 == 1)) (not (is_zeros (slice_range bytes 12 16))) (has_stray_relation kind bytes) (has_stray_sequence kind bytes) pass.1 in
    record {
      head = record {
        kind_is = same_from_test (slice_index bytes 0) kind pass.0;
        one = same_from_test (slice_index bytes 1) 1 (true_from_not (slice_index bytes 1 == 1) fails.first);
        relation_is = numbers.low;
        page_is = numbers.middle ∙ ap (little_bytes 4) own;
        sequence_is = numbers.high;
        zeros = zeros-is_zeros (slice_range bytes 12 16) (true_from_not (is_zeros (slice_range bytes 12 16)) fails.second) ∙ ap (λ n. replicate n 0) (length-range 12 16 bytes long);
      };
      page_fits = let P : ℕ → Type 0 = λ n. n < number_limit in subst P own (middle_fits bytes numbers);
      sequence_fits = high_fits bytes numbers;
      no_relation = no_stray_relation kind bytes pass.1;
    }
