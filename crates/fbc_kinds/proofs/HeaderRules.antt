use Rattle.std.proofs.Common.{◌≡◌, ◌≢◌, ◌+◌, ◌-◌, ◌*◌, ◌<◌, ◌≤◌, ◌&&◌, ◌==◌, if◌then◌else◌, ℕ, Bool, true, false, not, List, ◌++◌, length, get_or, take, drop, replicate, Some, refl, sym, ap, ◌∙◌, inl, inr, arith}
use Rattle.std.specs.Prelude.{None, Option, nat_lt, nat_le, slice_range, slice_index}
use Rattle.std.proofs.lemmas.Bool.{cases_lt}
use Rattle.std.proofs.lemmas.Bool.Decides.{nat_tests}
use Rattle.std.proofs.lemmas.List.{get_or_past, drop-drop}
use Rattle.std.proofs.Math.Seq.{take-add}
use Rattle.fbc_kinds.specs.declared.rules.Rule.{Rule}
use Rattle.fbc_kinds.specs.declared.rules.Rule.TheVariants as rule
use Rattle.fbc_kinds.specs.declared.pages.Relation.{Relation}
use Rattle.fbc_kinds.specs.Head.{little_bytes, is_zeros, any_below, is_within, or_else}
use Rattle.fbc_kinds.specs.HeaderSpelling.{IsFairEntry, IsRelation, SpellsRelation, entry_at, name_in, value_length_in, pointer_count_in, page_number_in, relation_count_in, has_bad_number, has_bad_name, has_bad_value, has_bad_pointer_count, has_bad_pointers, has_bad_names, has_bad_values, has_some_bad_pointers, repeats_name, holds_name, is_name, broken_relations}
use Rattle.fbc_kinds.specs.Limits.{relation_limit, value_limit, pointer_limit, name_limit}
use Rattle.fbc_kinds.proofs.AnyBelow.{any_below-fails}
use Rattle.fbc_kinds.proofs.Heads.{both_pass, true_from_not, zeros-is_zeros}
use Rattle.fbc_kinds.proofs.Numbers.{little_2-number_at, little_4-number_at, number_at-small_4, length-range}
use Rattle.fbc_kinds.proofs.Tests.{both_fail, at_most, same_from_test, differ_from_test}

-- What three tests in order say where no rule is broken.
pub record ThreeFail (a b c : Bool) : Type 0 where
  pub first : a ≡ false
  pub second : b ≡ false
  pub third : c ≡ false

pub three_in_order : (r s t : Rule) (a b c : Bool) → (if a then Some r else if b then Some s else if c then Some t else None) ≡ None → ThreeFail a b c
three_in_order r s t false false false unbroken = record { first = refl; second = refl; third = refl }
three_in_order r s t false false true unbroken = cc
three_in_order r s t false true c unbroken = cc
three_in_order r s t true b c unbroken = cc

pub two_in_order : (r s : Rule) (a b : Bool) → (if a then Some r else if b then Some s else None) ≡ None → (a ≡ false) × (b ≡ false)
two_in_order r s false false unbroken = (refl, refl)
two_in_order r s false true unbroken = cc
two_in_order r s true b unbroken = cc

-- Where nothing is broken, neither part is.
pub both_unbroken : (a b : Option Rule) → or_else a b ≡ None → (a ≡ None) × (b ≡ None)
both_unbroken None b unbroken = (refl, unbroken)
both_unbroken (Some r) b unbroken = cc

-- A number within its ends.
pub within_from : (low high n : ℕ) → is_within low high n ≡ true → (low ≤ n) × (n ≤ high)
within_from low high n passes =
    let both = both_pass (nat_le low n) (nat_le n high) passes in
    (at_most low n both.0, at_most n high both.1)

-- The branch of a test that is taken.
pub taken_branch : (i n : ℕ) (a b : Bool) → i < n → (if nat_lt i n then a else b) ≡ a
taken_branch i n a b below = let e : nat_lt i n ≡ true = grind (arith, nat_tests) in rw e refl

pub other_branch : (i n : ℕ) (a b : Bool) → n ≤ i → (if nat_lt i n then a else b) ≡ b
other_branch i n a b above = let e : nat_lt i n ≡ false = grind (arith, nat_tests) in rw e refl

-- A used number is not 0, and an unused one is.
pub number_used : (used from limit : ℕ) (bytes : List ℕ) → any_below (has_bad_number used from bytes) limit ≡ false → (i : ℕ) → i < limit → i < used → page_number_in from bytes i ≢ 0
number_used used from limit bytes none i below in_use =
    let fails : has_bad_number used from bytes i ≡ false = any_below-fails (has_bad_number used from bytes) limit none i below in
    differ_from_test (page_number_in from bytes i) 0 (sym (taken_branch i used (page_number_in from bytes i == 0) (not (page_number_in from bytes i == 0)) in_use) ∙ fails)

pub number_unused : (used from limit : ℕ) (bytes : List ℕ) → any_below (has_bad_number used from bytes) limit ≡ false → (i : ℕ) → i < limit → used ≤ i → page_number_in from bytes i ≡ 0
number_unused used from limit bytes none i below out_of_use =
    let fails : has_bad_number used from bytes i ≡ false = any_below-fails (has_bad_number used from bytes) limit none i below in
    same_from_test (page_number_in from bytes i) 0 (true_from_not (page_number_in from bytes i == 0) (sym (other_branch i used (page_number_in from bytes i == 0) (not (page_number_in from bytes i == 0)) out_of_use) ∙ fails))

-- What the tests of the relations say where no rule is broken.
pub record RelationsPass (bytes : List ℕ) : Type 0 where
  pub names : any_below (has_bad_name bytes) 8 ≡ false
  pub repeats : any_below (repeats_name bytes) (relation_count_in bytes) ≡ false
  pub values : any_below (has_bad_value bytes) 8 ≡ false
  pub pointers : any_below (has_bad_pointers bytes) 8 ≡ false

pub relations_pass : (bytes : List ℕ) → broken_relations bytes ≡ None → RelationsPass bytes
relations_pass bytes unbroken =
    let three = three_in_order rule.Name rule.Value rule.Pointers (has_bad_names bytes) (has_bad_values bytes) (has_some_bad_pointers bytes) unbroken in
    let names = both_fail (any_below (has_bad_name bytes) relation_limit) (any_below (repeats_name bytes) (relation_count_in bytes)) three.first in
    record { names = names.0; repeats = names.1; values = three.second; pointers = three.third }

-- A used entry of a header without a broken rule is fair.
pub IsFairEntry-used : (bytes : List ℕ) (i : ℕ) → 336 ≤ length bytes → RelationsPass bytes → i < 8 → i < relation_count_in bytes → IsFairEntry (entry_at bytes i)
IsFairEntry-used bytes i long pass below in_use =
    let entry = entry_at bytes i in
    let wide : length entry ≡ 36 = length-range (48 + 36 * i) (48 + 36 * i + 36) bytes (omega arith) ∙ omega arith in
    let name_fails : has_bad_name bytes i ≡ false = any_below-fails (has_bad_name bytes) 8 pass.names i below in
    let name_test : not (holds_name entry) ≡ false = sym (taken_branch i (relation_count_in bytes) (not (holds_name entry)) (not (is_zeros (slice_range entry 0 16))) in_use) ∙ name_fails in
    let holds = both_pass (nat_le (slice_index entry 0) name_limit && is_name (name_in entry)) (is_zeros (slice_range entry (1 + slice_index entry 0) 16)) (true_from_not (holds_name entry) name_test) in
    let named = both_pass (nat_le (slice_index entry 0) name_limit) (is_name (name_in entry)) holds.0 in
    let short : slice_index entry 0 ≤ 15 = at_most (slice_index entry 0) name_limit named.0 in
    let value_fails : has_bad_value bytes i ≡ false = any_below-fails (has_bad_value bytes) 8 pass.values i below in
    let value_test : not (is_within 1 value_limit (value_length_in entry)) ≡ false = sym (taken_branch i (relation_count_in bytes) (not (is_within 1 value_limit (value_length_in entry))) (not (value_length_in entry == 0)) in_use) ∙ value_fails in
    let value = within_from 1 value_limit (value_length_in entry) (true_from_not (is_within 1 value_limit (value_length_in entry)) value_test) in
    let pointers_fail : has_bad_pointers bytes i ≡ false = any_below-fails (has_bad_pointers bytes) 8 pass.pointers i below in
    let two = both_fail (has_bad_pointer_count bytes i) (any_below (has_bad_number (pointer_count_in entry) 20 entry) pointer_limit) pointers_fail in
    let count_test : not (is_within 1 pointer_limit (pointer_count_in entry)) ≡ false = sym (taken_branch i (relation_count_in bytes) (not (is_within 1 pointer_limit (pointer_count_in entry))) (not (pointer_count_in entry == 0)) in_use) ∙ two.0 in
    let count = within_from 1 pointer_limit (pointer_count_in entry) (true_from_not (is_within 1 pointer_limit (pointer_count_in entry)) count_test) in
    let gap : 16 - (1 + slice_index entry 0) ≡ 15 - slice_index entry 0 = omega arith in
    record {
      wide = wide;
      short = short;
      name = named.1;
      padding = zeros-is_zeros (slice_range entry (1 + slice_index entry 0) 16) holds.1 ∙ ap (λ n. replicate n 0) (length-range (1 + slice_index entry 0) 16 entry (omega arith) ∙ gap);
      value_from = value.0;
      value_to = value.1;
      count_from = count.0;
      count_to = count.1;
      used = λ j in_use. number_used (pointer_count_in entry) 20 4 entry two.1 j (omega (arith, count.1)) in_use;
      unused = λ j inside past. number_unused (pointer_count_in entry) 20 4 entry two.1 j inside past;
    }

-- A range in two parts.
range_split : (from middle to : ℕ) (bytes : List ℕ) → from ≤ middle → middle ≤ to → slice_range bytes from to ≡ slice_range bytes from middle ++ slice_range bytes middle to
range_split from middle to bytes low high =
    let whole : to - from ≡ (middle - from) + (to - middle) = omega arith in
    let place : from + (middle - from) ≡ middle = omega arith in
    ap (λ n. take n (drop from bytes)) whole
    ∙ (take-add (middle - from) (to - middle) (drop from bytes)
    ∙ (ap (λ (x : List ℕ). take (middle - from) (drop from bytes) ++ take (to - middle) x) (drop-drop (middle - from) from bytes)
    ∙ ap (λ n. take (middle - from) (drop from bytes) ++ take (to - middle) (drop n bytes)) place))

-- How long the name of a fair entry is.
pub length-name_in : (entry : List ℕ) → IsFairEntry entry → length (name_in entry) ≡ slice_index entry 0
length-name_in entry fair = length-range 1 (1 + slice_index entry 0) entry (omega (arith, fair.short, fair.wide)) ∙ omega arith

-- The relation that a fair entry spells.
pub relation_of : List ℕ → List ℕ → Relation
relation_of entry pointers = record { name = name_in entry; length = value_length_in entry; pointers = pointers }

pub SpellsRelation-read : (entry pointers : List ℕ) → ((i : ℕ) → get_or entry i 0 < 256) → IsFairEntry entry → length pointers ≡ pointer_count_in entry → ((i : ℕ) → i < pointer_count_in entry → slice_index pointers i ≡ page_number_in 20 entry i) → SpellsRelation (record { name = name_in entry; length = value_length_in entry; pointers = pointers }) entry
SpellsRelation-read entry pointers small fair count numbers =
    let n = slice_index entry 0 in
    let long = length-name_in entry fair in
    let gap : 15 - slice_index entry 0 ≡ 15 - length (name_in entry) = ap (λ k. 15 - k) (sym long) in
    let number : (i : ℕ) → i < 4 → page_number_in 20 entry i ≡ slice_index pointers i = λ i below.
    elim (cases_lt i (pointer_count_in entry)) [
      | inl in_use ↦ sym (numbers i in_use)
      | inr past ↦ fair.unused i below past ∙ sym (get_or_past pointers i 0 (omega (arith, count)))
    ] in
    record {
      name_length = sym long;
      name = range_split 1 (1 + slice_index entry 0) 16 entry (omega arith) (omega (arith, fair.short)) ∙ ap (λ (x : List ℕ). name_in entry ++ x) (fair.padding ∙ ap (λ k. replicate k 0) gap);
      value_length = little_2-number_at 16 entry small (omega (arith, fair.wide));
      pointer_count = little_2-number_at 18 entry small (omega (arith, fair.wide)) ∙ ap (little_bytes 2) (sym count);
      pointers = λ i below. little_4-number_at (20 + 4 * i) entry small (omega (arith, fair.wide)) ∙ ap (little_bytes 4) (number i below);
    }

pub IsRelation-read : (entry pointers : List ℕ) → ((i : ℕ) → get_or entry i 0 < 256) → IsFairEntry entry → length pointers ≡ pointer_count_in entry → ((i : ℕ) → i < pointer_count_in entry → slice_index pointers i ≡ page_number_in 20 entry i) → IsRelation (record { name = name_in entry; length = value_length_in entry; pointers = pointers })
IsRelation-read entry pointers small fair count numbers = record {
  name = fair.name;
  value_from = fair.value_from;
  value_to = fair.value_to;
  pointers_from = omega (arith, fair.count_from, count);
  pointers_to = omega (arith, fair.count_to, count);
  pointers = λ i below.
      let in_use : i < pointer_count_in entry = omega (arith, count) in
      let is = numbers i in_use in
      let some = fair.used i in_use in
      let fits = number_at-small_4 (20 + 4 * i) entry small (omega (arith, fair.wide, fair.count_to)) in
      record { names = omega arith; below = omega arith };
}
