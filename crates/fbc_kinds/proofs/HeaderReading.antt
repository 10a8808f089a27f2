use Rattle.std.proofs.Common.{◌≡◌, ◌≢◌, ◌+◌, ◌-◌, ◌*◌, ◌<◌, ◌≤◌, ◌||◌, ◌==◌, ℕ, true, false, not, List, length, get_or, take, drop, replicate, Some, refl, sym, ap, ◌∙◌, inl, inr, arith}
use Rattle.std.specs.Prelude.{None, nat_lt, slice_range, slice_index, slice_get, codes}
use Rattle.std.specs.Str.{bytes_eq}
use Rattle.std.proofs.lemmas.Bool.{cases_lt}
use Rattle.std.proofs.lemmas.Bool.Decides.{nat_tests}
use Rattle.std.proofs.lemmas.Slice.Eq.{bytes_eq-Decides}
use Rattle.std.proofs.lemmas.Option.{slice_get_within, slice_get_cases}
use Rattle.std.proofs.lemmas.List.{take_at, take_all, take-replicate, drop-replicate, length-drop, get_or_past}
use Rattle.fbc_kinds.specs.declared.rules.Rule.TheVariants as rule
use Rattle.fbc_kinds.specs.declared.pages.Relation.{Relation}
use Rattle.fbc_kinds.specs.Head.{HasHead, little_bytes, number_at, is_zeros, any_below, is_within, or_else, broken_head}
use Rattle.fbc_kinds.specs.HeaderSpelling.{IsRead, HaveOwnNames, SpellsRelation, SpellsEntry, SpellsHeader, entry_at, name_in, value_length_in, pointer_count_in, page_number_in, page_size_in, version_in, relation_count_in, inventory_count_in, tip_count_in, next_in, has_mark, has_bad_number, has_bad_name, has_bad_value, has_bad_pointer_count, has_bad_pointers, has_bad_tips, has_bad_oldest, has_bad_rest, has_bad_next, has_bad_count, repeats_name, holds_name, broken_front, broken_counts, broken_relations, broken_end, broken_content, broken_header}
use Rattle.fbc_kinds.specs.Limits.{value_limit, transaction_limit, tip_numbers, relation_limit, inventory_limit, tip_limit, pointer_limit, name_limit}
use Rattle.fbc_kinds.specs.Padding.{padded}
use Rattle.fbc_kinds.proofs.AnyBelow.{any_below-fails}
use Rattle.fbc_kinds.proofs.Heads.{true_from_not, zeros-is_zeros, four_fail}
use Rattle.fbc_kinds.proofs.Numbers.{little_2-number_at, little_4-number_at, number_at-small_4, length-range, range_small}
use Rattle.fbc_kinds.proofs.Pieces.{range_in, same_front-range, same_front-pieces}
use Rattle.fbc_kinds.proofs.Tests.{both_fail, same_from_test, differ_from_test}
use Rattle.fbc_kinds.proofs.Names.{is_name-short}
use Rattle.fbc_kinds.proofs.HeaderRules.{three_in_order, two_in_order, both_unbroken, within_from, other_branch, number_used, number_unused, RelationsPass, relations_pass}

-- What a failed test of an order tells.
not_below : (m n : ℕ) → nat_lt m n ≡ false → n ≤ m
not_below m n fails = grind (arith, nat_tests)

-- What the tests of the counts say where no rule is broken.
pub record CountsPass (size : ℕ) (bytes : List ℕ) : Type 0 where
  pub next_from : 1 ≤ next_in bytes
  pub next_to : next_in bytes ≤ transaction_limit size
  pub next_stands : next_in bytes ≤ tip_numbers size * tip_count_in bytes
  pub relations_from : 1 ≤ relation_count_in bytes
  pub relations_to : relation_count_in bytes ≤ 8
  pub inventories_from : 1 ≤ inventory_count_in bytes
  pub inventories_to : inventory_count_in bytes ≤ 64
  pub tips_from : 1 ≤ tip_count_in bytes
  pub tips_to : tip_count_in bytes ≤ 16
  pub unused : number_at 42 44 bytes ≡ 0

pub counts_pass : (size : ℕ) (bytes : List ℕ) → broken_counts size bytes ≡ None → CountsPass size bytes
counts_pass size bytes unbroken =
    let two = two_in_order rule.Next rule.Count (has_bad_next size bytes) (has_bad_count bytes) unbroken in
    let last = both_fail (next_in bytes == 0 || nat_lt (transaction_limit size) (next_in bytes)) (nat_lt (tip_numbers size * tip_count_in bytes) (next_in bytes)) two.0 in
    let first = both_fail (next_in bytes == 0) (nat_lt (transaction_limit size) (next_in bytes)) last.0 in
    let some = differ_from_test (next_in bytes) 0 first.0 in
    let four = four_fail (not (is_within 1 relation_limit (relation_count_in bytes))) (not (is_within 1 inventory_limit (inventory_count_in bytes))) (not (is_within 1 tip_limit (tip_count_in bytes))) (not (number_at 42 44 bytes == 0)) two.1 in
    let relations = within_from 1 relation_limit (relation_count_in bytes) (true_from_not (is_within 1 relation_limit (relation_count_in bytes)) four.first) in
    let inventories = within_from 1 inventory_limit (inventory_count_in bytes) (true_from_not (is_within 1 inventory_limit (inventory_count_in bytes)) four.second) in
    let tips = within_from 1 tip_limit (tip_count_in bytes) (true_from_not (is_within 1 tip_limit (tip_count_in bytes)) four.third) in
    record {
      next_from = omega arith;
      next_to = not_below (transaction_limit size) (next_in bytes) first.1;
      next_stands = not_below (tip_numbers size * tip_count_in bytes) (next_in bytes) last.1;
      relations_from = relations.0;
      relations_to = relations.1;
      inventories_from = inventories.0;
      inventories_to = inventories.1;
      tips_from = tips.0;
      tips_to = tips.1;
      unused = same_from_test (number_at 42 44 bytes) 0 (true_from_not (number_at 42 44 bytes == 0) four.fourth);
    }

-- Bytes that pass the comparison are equal.
same_from_bytes : (a b : List ℕ) → bytes_eq a b ≡ true → a ≡ b
same_from_bytes a b passes = (bytes_eq-Decides a b).0 passes

differ_from_bytes : (a b : List ℕ) → bytes_eq a b ≡ false → a ≢ b
differ_from_bytes a b fails same = let passes = (bytes_eq-Decides a b).1 same in cc

-- What the marks of a header say where no rule is broken.
pub record FrontPasses (size : ℕ) (bytes : List ℕ) : Type 0 where
  pub mark : slice_range bytes 16 24 ≡ codes "FBCPAGES"
  pub page_size : page_size_in bytes ≡ size
  pub version : version_in bytes ≡ 1

pub front_passes : (size : ℕ) (bytes : List ℕ) → broken_front (page_size_in bytes == size) bytes ≡ None → FrontPasses size bytes
front_passes size bytes unbroken =
    let three = three_in_order rule.Magic rule.Size rule.Version (not (has_mark bytes)) (not (page_size_in bytes == size)) (not (version_in bytes == 1)) unbroken in
    record {
      mark = same_from_bytes (slice_range bytes 16 24) (codes "FBCPAGES") (true_from_not (has_mark bytes) three.first);
      page_size = same_from_test (page_size_in bytes) size (true_from_not (page_size_in bytes == size) three.second);
      version = same_from_test (version_in bytes) 1 (true_from_not (version_in bytes == 1) three.third);
    }

-- The name that an entry spells.
pub name_in-spelled : (relation : Relation) (entry : List ℕ) → length relation.name ≤ 15 → SpellsRelation relation entry → name_in entry ≡ relation.name
name_in-spelled relation entry short x =
    let all : length relation.name - 0 ≡ length relation.name = omega arith in
    ap (λ n. slice_range entry 1 (1 + n)) x.name_length
    ∙ (sym (range_in 1 16 0 (length relation.name) entry (omega arith))
    ∙ (ap (λ (text : List ℕ). take (length relation.name - 0) text) x.name
    ∙ (ap (λ n. take n (padded name_limit relation.name)) all ∙ take_at relation.name (replicate (15 - length relation.name) 0) (length relation.name) refl)))

-- A range of zeros.
pub range_zeros : (from to n : ℕ) → to ≤ n → slice_range {X = ℕ} (replicate n 0) from to ≡ replicate (to - from) 0
range_zeros from to n fits = ap (λ (x : List ℕ). take (to - from) x) (drop-replicate from n 0) ∙ take-replicate (to - from) (n - from) 0 (omega arith)

-- An unused entry of a header without a broken rule is zeros.
pub unused_entry : (bytes : List ℕ) (i : ℕ) → ((k : ℕ) → get_or bytes k 0 < 256) → 336 ≤ length bytes → RelationsPass bytes → i < 8 → relation_count_in bytes ≤ i → entry_at bytes i ≡ replicate 36 0
unused_entry bytes i small long pass below past =
    let entry = entry_at bytes i in
    let zeros : List ℕ = replicate 36 0 in
    let wide : length entry ≡ 36 = length-range (48 + 36 * i) (48 + 36 * i + 36) bytes (omega arith) ∙ omega arith in
    let few : (k : ℕ) → get_or entry k 0 < 256 = range_small (48 + 36 * i) (48 + 36 * i + 36) bytes small in
    let name_fails : has_bad_name bytes i ≡ false = any_below-fails (has_bad_name bytes) 8 pass.names i below in
    let name_test : not (is_zeros (slice_range entry 0 16)) ≡ false = sym (other_branch i (relation_count_in bytes) (not (holds_name entry)) (not (is_zeros (slice_range entry 0 16))) past) ∙ name_fails in
    let front : slice_range entry 0 16 ≡ replicate 16 0 = zeros-is_zeros (slice_range entry 0 16) (true_from_not (is_zeros (slice_range entry 0 16)) name_test) ∙ ap (λ n. replicate n 0) (length-range 0 16 entry (omega arith)) in
    let value_fails : has_bad_value bytes i ≡ false = any_below-fails (has_bad_value bytes) 8 pass.values i below in
    let value_test : not (value_length_in entry == 0) ≡ false = sym (other_branch i (relation_count_in bytes) (not (is_within 1 value_limit (value_length_in entry))) (not (value_length_in entry == 0)) past) ∙ value_fails in
    let value : value_length_in entry ≡ 0 = same_from_test (value_length_in entry) 0 (true_from_not (value_length_in entry == 0) value_test) in
    let pointers_fail : has_bad_pointers bytes i ≡ false = any_below-fails (has_bad_pointers bytes) 8 pass.pointers i below in
    let two = both_fail (has_bad_pointer_count bytes i) (any_below (has_bad_number (pointer_count_in entry) 20 entry) pointer_limit) pointers_fail in
    let count_test : not (pointer_count_in entry == 0) ≡ false = sym (other_branch i (relation_count_in bytes) (not (is_within 1 pointer_limit (pointer_count_in entry))) (not (pointer_count_in entry == 0)) past) ∙ two.0 in
    let count : pointer_count_in entry ≡ 0 = same_from_test (pointer_count_in entry) 0 (true_from_not (pointer_count_in entry == 0) count_test) in
    let to_value = same_front-range 16 2 entry zeros front (little_2-number_at 16 entry few (omega arith) ∙ ap (little_bytes 2) value) in
    let to_count = same_front-range 18 2 entry zeros to_value (little_2-number_at 18 entry few (omega arith) ∙ ap (little_bytes 2) count) in
    let all = same_front-pieces 20 4 4 entry zeros to_count (λ j inside.
    let width : 20 + 4 * j + 4 - (20 + 4 * j) ≡ 4 = omega arith in
    let none : page_number_in 20 entry j ≡ 0 = number_unused (pointer_count_in entry) 20 4 entry two.1 j inside (omega arith) in
    little_4-number_at (20 + 4 * j) entry few (omega arith)
    ∙ (ap (little_bytes 4) none ∙ sym (range_zeros (20 + 4 * j) (20 + 4 * j + 4) 36 (omega arith) ∙ ap (λ n. replicate n 0) width))) in
    sym (take_all 36 entry (omega arith)) ∙ all

-- A relation does not have the name of an earlier one.
pub earlier_differs : (bytes : List ℕ) (j i : ℕ) → RelationsPass bytes → j < i → i < relation_count_in bytes → name_in (entry_at bytes j) ≢ name_in (entry_at bytes i)
earlier_differs bytes j i pass earlier inside =
    let none : repeats_name bytes i ≡ false = any_below-fails (repeats_name bytes) (relation_count_in bytes) pass.repeats i inside in
    differ_from_bytes (name_in (entry_at bytes j)) (name_in (entry_at bytes i)) (any_below-fails (λ k. bytes_eq (name_in (entry_at bytes k)) (name_in (entry_at bytes i))) i none j earlier)

-- Relations that were read from fair entries have names of their own.
own_names : (bytes : List ℕ) (relations : List Relation) → RelationsPass bytes → length relations ≡ relation_count_in bytes → ((i : ℕ) (r : Relation) → slice_get relations i ≡ Some r → name_in (entry_at bytes i) ≡ r.name) → HaveOwnNames relations
own_names bytes relations pass count named i j r s at_i at_j same =
    elim (cases_lt i j) [
      | inl before ↦ absurd (earlier_differs bytes i j pass before (omega (arith, slice_get_within relations j s at_j, count)) (named i r at_i ∙ (same ∙ sym (named j s at_j))))
      | inr not_before ↦ elim (cases_lt j i) [
        | inl after ↦ absurd (earlier_differs bytes j i pass after (omega (arith, slice_get_within relations i r at_i, count)) (named j s at_j ∙ (sym same ∙ sym (named i r at_i))))
        | inr not_after ↦ omega arith
      ]
    ]

-- What a header's last tests say where no rule is broken.
pub record EndPasses (bytes : List ℕ) : Type 0 where
  pub tips : any_below (has_bad_number (tip_count_in bytes) 336 bytes) 16 ≡ false
  pub oldest : number_at 44 48 bytes ≡ 0
  pub rest : is_zeros (drop 400 bytes) ≡ true

pub end_passes : (bytes : List ℕ) → broken_end bytes ≡ None → EndPasses bytes
end_passes bytes unbroken =
    let three = three_in_order rule.Tips rule.Oldest rule.Rest (has_bad_tips bytes) (has_bad_oldest bytes) (has_bad_rest bytes) unbroken in
    record {
      tips = three.first;
      oldest = same_from_test (number_at 44 48 bytes) 0 (true_from_not (number_at 44 48 bytes == 0) three.second);
      rest = true_from_not (is_zeros (drop 400 bytes)) three.third;
    }

-- Each entry is spelled, used or not.
entry_read : (bytes : List ℕ) (relations : List Relation) → ((k : ℕ) → get_or bytes k 0 < 256) → 336 ≤ length bytes → RelationsPass bytes → length relations ≡ relation_count_in bytes → ((i : ℕ) (r : Relation) → slice_get relations i ≡ Some r → IsRead bytes i r) → (i : ℕ) → i < 8 → SpellsEntry (slice_get relations i) (entry_at bytes i)
entry_read bytes relations small long pass count read i below =
    elim (slice_get_cases relations i).1 [
      | inl found ↦ rw found.2 (read i found.0 found.2).spelled
      | inr missing ↦ rw missing.1 (unused_entry bytes i small long pass below (omega (arith, missing.0, count)))
    ]

-- The header that was read from bytes without a broken rule is the one that they spell.
pub SpellsHeader-read : (size : ℕ) (relations : List Relation) (tips bytes : List ℕ) → 400 ≤ size → ((k : ℕ) → get_or bytes k 0 < 256) → length bytes ≡ size → HasHead 1 0 0 0 bytes → broken_front (page_size_in bytes == size) bytes ≡ None → broken_content size bytes ≡ None → length relations ≡ relation_count_in bytes → ((i : ℕ) (r : Relation) → slice_get relations i ≡ Some r → IsRead bytes i r) → length tips ≡ tip_count_in bytes → ((i : ℕ) → i < tip_count_in bytes → slice_index tips i ≡ page_number_in 336 bytes i) → SpellsHeader size (record { size = size; next = next_in bytes; inventories = inventory_count_in bytes; oldest = number_at 44 48 bytes; relations = relations; tips = tips }) bytes
SpellsHeader-read size relations tips bytes large small long head front content relation_count read tip_count numbers =
    let marks = front_passes size bytes front in
    let parts = both_unbroken (broken_counts size bytes) (or_else (broken_relations bytes) (broken_end bytes)) content in
    let later = both_unbroken (broken_relations bytes) (broken_end bytes) parts.1 in
    let counts = counts_pass size bytes parts.0 in
    let pass = relations_pass bytes later.0 in
    let ends = end_passes bytes later.1 in
    let long_enough : 400 ≤ length bytes = omega arith in
    let tip : (i : ℕ) → i < 16 → page_number_in 336 bytes i ≡ slice_index tips i = λ i below.
    elim (cases_lt i (tip_count_in bytes)) [
      | inl in_use ↦ sym (numbers i in_use)
      | inr past ↦ number_unused (tip_count_in bytes) 336 16 bytes ends.tips i below past ∙ sym (get_or_past tips i 0 (omega (arith, tip_count)))
    ] in
    record {
      fits = record {
        page_size = refl;
        next_from = counts.next_from;
        next_to = counts.next_to;
        next_stands = rw tip_count counts.next_stands;
        relations_from = omega (arith, counts.relations_from, relation_count);
        relations_to = omega (arith, counts.relations_to, relation_count);
        inventories_from = counts.inventories_from;
        inventories_to = counts.inventories_to;
        tips_from = omega (arith, counts.tips_from, tip_count);
        tips_to = omega (arith, counts.tips_to, tip_count);
        relations = λ i r at. (read i r at).fits;
        names = own_names bytes relations pass relation_count (λ i r at. name_in-spelled r (entry_at bytes i) (is_name-short r.name (read i r at).fits.name) (read i r at).spelled);
        tips = λ i below.
            let in_use : i < tip_count_in bytes = omega (arith, tip_count) in
            let is = numbers i in_use in
            let some = number_used (tip_count_in bytes) 336 16 bytes ends.tips i (omega (arith, counts.tips_to)) in_use in
            let fits = number_at-small_4 (336 + 4 * i) bytes small (omega (arith, counts.tips_to)) in
            record { names = omega arith; below = omega arith };
        oldest = ends.oldest;
      };
      size_is = long;
      head = head;
      magic = marks.mark;
      page_size = little_4-number_at 24 bytes small (omega arith) ∙ ap (little_bytes 4) marks.page_size;
      version = little_4-number_at 28 bytes small (omega arith) ∙ ap (little_bytes 4) marks.version;
      next = little_4-number_at 32 bytes small (omega arith);
      relation_count = little_2-number_at 36 bytes small (omega arith) ∙ ap (little_bytes 2) (sym relation_count);
      inventory_count = little_2-number_at 38 bytes small (omega arith);
      tip_count = little_2-number_at 40 bytes small (omega arith) ∙ ap (little_bytes 2) (sym tip_count);
      unused = little_2-number_at 42 bytes small (omega arith) ∙ ap (little_bytes 2) counts.unused;
      oldest = little_4-number_at 44 bytes small (omega arith);
      entries = λ i below. entry_read bytes relations small (omega arith) pass relation_count read i below;
      tips = λ i below. little_4-number_at (336 + 4 * i) bytes small (omega arith) ∙ ap (little_bytes 4) (tip i below);
      rest = zeros-is_zeros (drop 400 bytes) ends.rest ∙ ap (λ n. replicate n 0) (length-drop 400 bytes ∙ ap (λ n. n - 400) long);
    }

-- The parts of a header that breaks no rule.
pub record HeaderPasses (size : ℕ) (bytes : List ℕ) : Type 0 where
  pub head : broken_head 1 0 bytes ≡ None
  pub front : broken_front (page_size_in bytes == size) bytes ≡ None
  pub content : broken_content size bytes ≡ None
  pub counts : broken_counts size bytes ≡ None
  pub relations : broken_relations bytes ≡ None

pub header_passes : (size : ℕ) (bytes : List ℕ) → broken_header size bytes ≡ None → HeaderPasses size bytes
header_passes size bytes unbroken =
    let first = both_unbroken (broken_head 1 0 bytes) (or_else (broken_front (page_size_in bytes == size) bytes) (broken_content size bytes)) unbroken in
    let second = both_unbroken (broken_front (page_size_in bytes == size) bytes) (broken_content size bytes) first.1 in
    let third = both_unbroken (broken_counts size bytes) (or_else (broken_relations bytes) (broken_end bytes)) second.1 in
    let fourth = both_unbroken (broken_relations bytes) (broken_end bytes) third.1 in
    record { head = first.0; front = second.0; content = second.1; counts = third.0; relations = fourth.0 }
