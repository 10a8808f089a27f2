use Rattle.std.proofs.Common.{◌^◌, ◌≡◌, ◌<◌, ◌≤◌, ◌&&◌, ◌||◌, ◌==◌, ℕ, zero, suc, Bool, true, false, not, List, [], ◌∷◌, length, get_or, replicate, take, drop, refl, ap, sym, ◌∙◌, arith}
use Rattle.std.specs.Prelude.{Some, None, if◌then◌else◌, nat_le, slice_range, slice_index}
use Rattle.fbc_kinds.specs.declared.rules.Rule.TheVariants as rule
use Rattle.std.proofs.lemmas.Bool.Decides.{nat_tests}
use Rattle.std.proofs.lemmas.List.{take-take, get_or-take}
use Rattle.std.proofs.lemmas.Slice.{between_is}
use Rattle.fbc_kinds.specs.Head.{number_in, broken_head, HasHead, is_zeros, has_bad_head, has_stray_relation, has_stray_sequence, relation_in, page_in, sequence_in}
use Rattle.fbc_kinds.proofs.Tests.{and_fails, fails_under, not_of_true, test_of_same, test_of_order, same_from_test, at_most}
use Rattle.fbc_kinds.proofs.Numbers.{number_in-little_2, number_in-little_4, little_2-number_at, little_4-number_at, length-range}

-- Where both of two tests pass, each one passes.
pub both_pass : (a b : Bool) → (a && b) ≡ true → (a ≡ true) × (b ≡ true)
both_pass true true passes = (refl, refl)
both_pass true false passes = cc
both_pass false _ passes = cc

-- What the test of a number against zero tells.
zero_from_test : (n : ℕ) → (n == 0) ≡ true → n ≡ 0
zero_from_test n passes = grind (arith, nat_tests)

-- Bytes that pass the test are zeros.
pub zeros-is_zeros : (bytes : List ℕ) → is_zeros bytes ≡ true → bytes ≡ replicate (length bytes) 0
zeros-is_zeros [] passes = refl
zeros-is_zeros (b ∷ bytes) passes =
    let both = both_pass (b == 0) (is_zeros bytes) passes in
    let none : b ≡ 0 = zero_from_test b both.0 in
    let rest = zeros-is_zeros bytes both.1 in
    cc

-- Zeros pass the test.
pub is_zeros-replicate : (n : ℕ) → is_zeros (replicate n 0) ≡ true
is_zeros-replicate zero = refl
is_zeros-replicate (suc n) = is_zeros-replicate n

-- Where none of four tests passes, each one fails.
pub record FourFail (a b c d : Bool) : Type 0 where
  pub first : a ≡ false
  pub second : b ≡ false
  pub third : c ≡ false
  pub fourth : d ≡ false

pub four_fail : (a b c d : Bool) → (a || b || c || d) ≡ false → FourFail a b c d
four_fail false false false false fails = record { first = refl; second = refl; third = refl; fourth = refl }
four_fail false false false true fails = cc
four_fail false false true _ fails = cc
four_fail false true _ _ fails = cc
four_fail true _ _ _ fails = cc

-- A test whose negation fails passes.
pub true_from_not : (b : Bool) → not b ≡ false → b ≡ true
true_from_not true fails = refl
true_from_not false fails = cc

-- A head with none of the faults says what stands in its bytes.
pub HasHead-fair : (kind page : ℕ) (bytes : List ℕ) → ((i : ℕ) → get_or bytes i 0 < 256) → 16 ≤ length bytes → get_or bytes 0 0 ≡ kind → has_bad_head kind bytes ≡ false → page_in bytes ≡ page → HasHead kind (relation_in bytes) page (sequence_in bytes) bytes
HasHead-fair kind page bytes small long right_kind fair right_page =
    let fails = four_fail (not (slice_index bytes 1 == 1)) (not (is_zeros (slice_range bytes 12 16))) (has_stray_relation kind bytes) (has_stray_sequence kind bytes) fair in
    let first = true_from_not (slice_index bytes 1 == 1) fails.first in
    let second = true_from_not (is_zeros (slice_range bytes 12 16)) fails.second in
    record {
      kind_is = right_kind;
      one = grind (arith, nat_tests);
      relation_is = little_2-number_at 2 bytes small (omega arith);
      page_is = rw (← right_page) (little_4-number_at 4 bytes small (omega arith));
      sequence_is = little_4-number_at 8 bytes small (omega arith);
      zeros = zeros-is_zeros (slice_range bytes 12 16) second ∙ ap (λ n. replicate n 0) (length-range 12 16 bytes (omega arith));
    }

-- A range of the front is that range of the whole.
pub range-take : (n from to : ℕ) (bytes : List ℕ) → to ≤ n → slice_range (take n bytes) from to ≡ slice_range bytes from to
range-take n from to bytes within =
    between_is (take n bytes) from to ∙ ap (λ (front : List ℕ). drop from front) (take-take to n bytes within) ∙ sym (between_is bytes from to)

-- Ranges of equal fronts are equal.
pub range-same_front : (n from to : ℕ) (old new : List ℕ) → to ≤ n → take n new ≡ take n old → slice_range new from to ≡ slice_range old from to
range-same_front n from to old new within same =
    sym (range-take n from to new within) ∙ ap (λ (front : List ℕ). slice_range front from to) same ∙ range-take n from to old within

-- Items of equal fronts are equal.
pub item-same_front : (n i : ℕ) (old new : List ℕ) → i < n → take n new ≡ take n old → get_or new i 0 ≡ get_or old i 0
item-same_front n i old new within same =
    sym (get_or-take n new i 0 within) ∙ ap (λ (front : List ℕ). get_or front i 0) same ∙ get_or-take n old i 0 within

-- A head stays where the first 16 bytes stay.
pub HasHead-kept : (kind relation page sequence : ℕ) (old new : List ℕ) → take 16 new ≡ take 16 old → HasHead kind relation page sequence old → HasHead kind relation page sequence new
HasHead-kept kind relation page sequence old new same head = record {
  kind_is = item-same_front 16 0 old new (omega arith) same ∙ head.kind_is;
  one = item-same_front 16 1 old new (omega arith) same ∙ head.one;
  relation_is = range-same_front 16 2 4 old new (omega arith) same ∙ head.relation_is;
  page_is = range-same_front 16 4 8 old new (omega arith) same ∙ head.page_is;
  sequence_is = range-same_front 16 8 12 old new (omega arith) same ∙ head.sequence_is;
  zeros = range-same_front 16 12 16 old new (omega arith) same ∙ head.zeros;
}

-- None of four failed tests passes.
pub four_none : (a b c d : Bool) → a ≡ false → b ≡ false → c ≡ false → d ≡ false → (a || b || c || d) ≡ false
four_none a b c d first second third fourth = rw (first, second, third, fourth) refl

-- What a head says for certain kinds: no relation below the pointer pages, no sequence for the header.
pub record IsPlainHead (kind relation sequence : ℕ) : Type 0 where
  pub no_relation : kind ≤ 3 → relation ≡ 0
  pub no_sequence : kind ≡ 1 → sequence ≡ 0

-- A head that says what is due breaks no rule.
pub HasHead-unbroken : (kind relation page sequence : ℕ) (bytes : List ℕ) → relation < 2 ^ 16 → page < 2 ^ 32 → sequence < 2 ^ 32 → IsPlainHead kind relation sequence → HasHead kind relation page sequence bytes → broken_head kind page bytes ≡ None
HasHead-unbroken kind relation page sequence bytes small small' small'' plain head =
    let relation_is : relation_in bytes ≡ relation = ap (number_in 256) head.relation_is ∙ number_in-little_2 relation small in
    let page_is : page_in bytes ≡ page = ap (number_in 256) head.page_is ∙ number_in-little_4 page small' in
    let sequence_is : sequence_in bytes ≡ sequence = ap (number_in 256) head.sequence_is ∙ number_in-little_4 sequence small'' in
    let kind_test : (slice_index bytes 0 == kind) ≡ true = test_of_same (slice_index bytes 0) kind head.kind_is in
    let page_test : (page_in bytes == page) ≡ true = test_of_same (page_in bytes) page page_is in
    let one_test : not (slice_index bytes 1 == 1) ≡ false = not_of_true (slice_index bytes 1 == 1) (test_of_same (slice_index bytes 1) 1 head.one) in
    let zeros_test : not (is_zeros (slice_range bytes 12 16)) ≡ false = not_of_true (is_zeros (slice_range bytes 12 16)) (ap is_zeros head.zeros ∙ is_zeros-replicate 4) in
    let relation_test : has_stray_relation kind bytes ≡ false = and_fails (nat_le kind 3) (not (relation_in bytes == 0)) (λ low.
    not_of_true (relation_in bytes == 0) (test_of_same (relation_in bytes) 0 (relation_is ∙ plain.no_relation (at_most kind 3 low)))) in
    let sequence_test : has_stray_sequence kind bytes ≡ false = and_fails (kind == 1) (not (sequence_in bytes == 0)) (λ first.
    not_of_true (sequence_in bytes == 0) (test_of_same (sequence_in bytes) 0 (sequence_is ∙ plain.no_sequence (same_from_test kind 1 first)))) in
    let head_test : has_bad_head kind bytes ≡ false = four_none (not (slice_index bytes 1 == 1)) (not (is_zeros (slice_range bytes 12 16))) (has_stray_relation kind bytes) (has_stray_sequence kind bytes) one_test zeros_test relation_test sequence_test in
    rw (kind_test, head_test, page_test) refl

-- A head with none of the faults has a relation only where one is due.
pub no_stray_relation : (kind : ℕ) (bytes : List ℕ) → has_bad_head kind bytes ≡ false → kind ≤ 3 → relation_in bytes ≡ 0
no_stray_relation kind bytes fair low =
    let fails = four_fail (not (slice_index bytes 1 == 1)) (not (is_zeros (slice_range bytes 12 16))) (has_stray_relation kind bytes) (has_stray_sequence kind bytes) fair in
    let test = fails_under (nat_le kind 3) (not (relation_in bytes == 0)) fails.third (test_of_order kind 3 low) in
    same_from_test (relation_in bytes) 0 (true_from_not (relation_in bytes == 0) test)

-- And a sequence only where one is due.
pub no_stray_sequence : (kind : ℕ) (bytes : List ℕ) → has_bad_head kind bytes ≡ false → kind ≡ 1 → sequence_in bytes ≡ 0
no_stray_sequence kind bytes fair first =
    let fails = four_fail (not (slice_index bytes 1 == 1)) (not (is_zeros (slice_range bytes 12 16))) (has_stray_relation kind bytes) (has_stray_sequence kind bytes) fair in
    let test = fails_under (kind == 1) (not (sequence_in bytes == 0)) fails.fourth (test_of_same kind 1 first) in
    same_from_test (sequence_in bytes) 0 (true_from_not (sequence_in bytes == 0) test)

-- What the tests of a head say where no rule is broken.
head_pass : (a b c : Bool) → (if not a then Some rule.Kind else if b then Some rule.Head else if not c then Some rule.Number else None) ≡ None → (a ≡ true) × (b ≡ false) × (c ≡ true)
head_pass true false true unbroken = (refl, refl, refl)
head_pass true false false unbroken = cc
head_pass true true c unbroken = cc
head_pass false b c unbroken = cc

-- A head that breaks no rule says what stands in its bytes.
pub HasHead-from_unbroken : (kind page : ℕ) (bytes : List ℕ) → ((i : ℕ) → get_or bytes i 0 < 256) → 16 ≤ length bytes → broken_head kind page bytes ≡ None → HasHead kind (relation_in bytes) page (sequence_in bytes) bytes
HasHead-from_unbroken kind page bytes small long unbroken =
    let pass = head_pass (slice_index bytes 0 == kind) (has_bad_head kind bytes) (page_in bytes == page) unbroken in
    HasHead-fair kind page bytes small long (same_from_test (slice_index bytes 0) kind pass.0) pass.1 (same_from_test (page_in bytes) page pass.2)

-- The head of a header that breaks no rule.
pub header_head : (bytes : List ℕ) → ((i : ℕ) → get_or bytes i 0 < 256) → 16 ≤ length bytes → broken_head 1 0 bytes ≡ None → HasHead 1 0 0 0 bytes
header_head bytes small long unbroken =
    let pass = head_pass (slice_index bytes 0 == 1) (has_bad_head 1 bytes) (page_in bytes == 0) unbroken in
    let relation = no_stray_relation 1 bytes pass.1 (omega arith) in
    let sequence = no_stray_sequence 1 bytes pass.1 refl in
    let head = HasHead-from_unbroken 1 0 bytes small long unbroken in
    rw (relation, sequence) at head
