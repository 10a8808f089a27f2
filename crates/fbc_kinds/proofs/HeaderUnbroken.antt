use Rattle.std.proofs.Common.{◌≡◌, ◌≢◌, ◌+◌, ◌-◌, ◌*◌, ◌^◌, ◌<◌, ◌≤◌, ◌||◌, ◌==◌, ℕ, Bool, true, false, not, List, [], length, take, drop, replicate, Some, refl, sym, ap, ◌∙◌, inl, inr, arith}
use Rattle.std.specs.Prelude.{None, nat_lt, nat_le, slice_range, slice_index, slice_get, codes}
use Rattle.std.specs.Str.{bytes_eq}
use Rattle.std.proofs.lemmas.Bool.{cases_lt}
use Rattle.std.proofs.lemmas.Bool.Decides.{nat_tests}
use Rattle.std.proofs.lemmas.Slice.Eq.{bytes_eq-Decides}
use Rattle.std.proofs.lemmas.Option.{slice_get_past, slice_get_cases}
use Rattle.std.proofs.lemmas.List.{drop_at, take_all, length-replicate, get_or_past}
use Rattle.fbc_kinds.specs.declared.pages.Header.{Header}
use Rattle.fbc_kinds.specs.declared.pages.Relation.{Relation}
use Rattle.fbc_kinds.specs.Head.{little_bytes, number_in, number_at, is_zeros, any_below, is_within}
use Rattle.fbc_kinds.specs.HeaderSpelling.{IsHeader, IsRelation, ArePageNumbers, SpellsRelation, SpellsEntry, SpellsHeader, entry_at, name_in, value_length_in, pointer_count_in, page_number_in, page_size_in, version_in, relation_count_in, inventory_count_in, tip_count_in, next_in, has_mark, has_bad_number, has_bad_name, has_bad_value, has_bad_pointer_count, has_bad_pointers, has_bad_names, has_bad_values, has_some_bad_pointers, has_bad_tips, has_bad_oldest, has_bad_rest, has_bad_next, has_bad_count, repeats_name, holds_name, is_name, broken_front, broken_counts, broken_relations, broken_end, broken_header}
use Rattle.fbc_kinds.specs.Limits.{IsPageSize, value_limit, transaction_limit, tip_numbers, relation_limit, inventory_limit, tip_limit, pointer_limit, name_limit}
use Rattle.fbc_kinds.specs.Padding.{padded}
use Rattle.fbc_kinds.proofs.AnyBelow.{any_below-none}
use Rattle.fbc_kinds.proofs.Heads.{IsPlainHead, HasHead-unbroken, is_zeros-replicate, four_none}
use Rattle.fbc_kinds.proofs.HeaderLaws.{next_fits}
use Rattle.fbc_kinds.proofs.HeaderReading.{name_in-spelled, range_zeros}
use Rattle.fbc_kinds.proofs.HeaderRules.{taken_branch, other_branch}
use Rattle.fbc_kinds.proofs.Names.{is_name-short}
use Rattle.fbc_kinds.proofs.Numbers.{number_in-little_2, number_in-little_4}
use Rattle.fbc_kinds.proofs.Pieces.{range_in}
use Rattle.fbc_kinds.proofs.Tests.{neither, not_of_true, test_of_same, test_of_different, test_of_order}

-- A number between its ends passes the test.
within_passes : (low high n : ℕ) → low ≤ n → n ≤ high → is_within low high n ≡ true
within_passes low high n from to =
    let a = test_of_order low n from in
    let b = test_of_order n high to in
    rw (a, b) refl

-- A test of an order that does not hold fails.
order_fails : (m n : ℕ) → n ≤ m → nat_lt m n ≡ false
order_fails m n order = grind (arith, nat_tests)

-- Equal texts pass the comparison, and others do not.
bytes_pass : (a b : List ℕ) → a ≡ b → bytes_eq a b ≡ true
bytes_pass a b same = (bytes_eq-Decides a b).1 same

not_passed : (b : Bool) → (b ≡ true → ⊥) → b ≡ false
not_passed false fails = refl
not_passed true fails = absurd (fails refl)

bytes_fail : (a b : List ℕ) → a ≢ b → bytes_eq a b ≡ false
bytes_fail a b differ = not_passed (bytes_eq a b) (λ passes. differ ((bytes_eq-Decides a b).0 passes))

-- The numbers of a header that is spelled.
pub record NumbersAre (header : Header) (bytes : List ℕ) : Type 0 where
  pub page_size : page_size_in bytes ≡ header.size
  pub version : version_in bytes ≡ 1
  pub next : next_in bytes ≡ header.next
  pub relation_count : relation_count_in bytes ≡ length header.relations
  pub inventory_count : inventory_count_in bytes ≡ header.inventories
  pub tip_count : tip_count_in bytes ≡ length header.tips
  pub unused : number_at 42 44 bytes ≡ 0
  pub oldest : number_at 44 48 bytes ≡ 0

size_fits : (size : ℕ) → IsPageSize size → size < 2 ^ 32
size_fits size (inl is) = omega arith
size_fits size (inr (inl is)) = omega arith
size_fits size (inr (inr (inl is))) = omega arith
size_fits size (inr (inr (inr (inl is)))) = omega arith
size_fits size (inr (inr (inr (inr is)))) = omega arith

pub numbers_are : (size : ℕ) (header : Header) (bytes : List ℕ) → IsPageSize size → SpellsHeader size header bytes → NumbersAre header bytes
numbers_are size header bytes is x = record {
  page_size = ap (number_in 256) x.page_size ∙ number_in-little_4 header.size (omega (arith, x.fits.page_size, size_fits size is));
  version = ap (number_in 256) x.version ∙ number_in-little_4 1 (omega arith);
  next = ap (number_in 256) x.next ∙ number_in-little_4 header.next (next_fits size header is x.fits);
  relation_count = ap (number_in 256) x.relation_count ∙ number_in-little_2 (length header.relations) (omega (arith, x.fits.relations_to));
  inventory_count = ap (number_in 256) x.inventory_count ∙ number_in-little_2 header.inventories (omega (arith, x.fits.inventories_to));
  tip_count = ap (number_in 256) x.tip_count ∙ number_in-little_2 (length header.tips) (omega (arith, x.fits.tips_to));
  unused = ap (number_in 256) x.unused ∙ number_in-little_2 0 (omega arith);
  oldest = ap (number_in 256) x.oldest ∙ (number_in-little_4 header.oldest (omega (arith, x.fits.oldest)) ∙ x.fits.oldest);
}

-- A row of page numbers passes its tests.
numbers_pass : (from limit : ℕ) (pages bytes : List ℕ) → ArePageNumbers pages → ((i : ℕ) → i < limit → slice_range bytes (from + 4 * i) (from + 4 * i + 4) ≡ little_bytes 4 (slice_index pages i)) → (used : ℕ) → used ≡ length pages → any_below (has_bad_number used from bytes) limit ≡ false
numbers_pass from limit pages bytes fits spelled used count = any_below-none (has_bad_number used from bytes) limit (λ i below.
    elim (cases_lt i used) [
      | inl in_use ↦
          let inside : i < length pages = omega arith in
          let is : page_number_in from bytes i ≡ slice_index pages i = ap (number_in 256) (spelled i below) ∙ number_in-little_4 (slice_index pages i) (fits i inside).below in
          let some = (fits i inside).names in
          taken_branch i used (page_number_in from bytes i == 0) (not (page_number_in from bytes i == 0)) in_use
          ∙ test_of_different (page_number_in from bytes i) 0 (λ none. absurd (omega arith))
      | inr past ↦
          let none : slice_index pages i ≡ 0 = get_or_past pages i 0 (omega arith) in
          let is : page_number_in from bytes i ≡ 0 = ap (number_in 256) (spelled i below) ∙ ap (λ n. number_in 256 (little_bytes 4 n)) none in
          other_branch i used (page_number_in from bytes i == 0) (not (page_number_in from bytes i == 0)) past
          ∙ not_of_true (page_number_in from bytes i == 0) (test_of_same (page_number_in from bytes i) 0 is)
    ])

-- An entry that spells a relation passes the tests of a used entry.
holds_name-spelled : (relation : Relation) (entry : List ℕ) → IsRelation relation → SpellsRelation relation entry → holds_name entry ≡ true
holds_name-spelled relation entry fits x =
    let short = is_name-short relation.name fits.name in
    let count : slice_index entry 0 ≡ length relation.name = x.name_length in
    let named : name_in entry ≡ relation.name = name_in-spelled relation entry short x in
    let order : nat_le (slice_index entry 0) name_limit ≡ true = test_of_order (slice_index entry 0) name_limit (omega arith) in
    let is : is_name (name_in entry) ≡ true = ap is_name named ∙ fits.name in
    let zeros : List ℕ = replicate (15 - length relation.name) 0 in
    let rest : slice_range (padded 15 relation.name) (length relation.name) 15 ≡ zeros =
    ap (λ (text : List ℕ). take (15 - length relation.name) text) (drop_at relation.name zeros (length relation.name) refl)
    ∙ take_all (15 - length relation.name) zeros (omega (arith, length-replicate {A = ℕ} (15 - length relation.name) 0)) in
    let padding : slice_range entry (1 + slice_index entry 0) 16 ≡ zeros =
    ap (λ n. slice_range entry (1 + n) 16) count
    ∙ (sym (range_in 1 16 (length relation.name) 15 entry (omega arith)) ∙ (ap (λ (text : List ℕ). slice_range text (length relation.name) 15) x.name ∙ rest)) in
    let blank : is_zeros (slice_range entry (1 + slice_index entry 0) 16) ≡ true = ap is_zeros padding ∙ is_zeros-replicate (15 - length relation.name) in
    rw (order, is, blank) refl

-- The relation of a used place.
relation_at : (header : Header) (bytes : List ℕ) (i : ℕ) → ((k : ℕ) → k < 8 → SpellsEntry (slice_get header.relations k) (entry_at bytes k)) → i < 8 → i < length header.relations → (r : Relation) × (slice_get header.relations i ≡ Some r) × SpellsRelation r (entry_at bytes i)
relation_at header bytes i entries below in_use =
    let is = entries i below in
    elim (slice_get_cases header.relations i).1 [
      | inl found ↦ (found.0, found.2, rw found.2 at is)
      | inr missing ↦ absurd (omega (arith, missing.0))
    ]

-- An unused place is zeros.
zeros_at : (header : Header) (bytes : List ℕ) (i : ℕ) → ((k : ℕ) → k < 8 → SpellsEntry (slice_get header.relations k) (entry_at bytes k)) → i < 8 → length header.relations ≤ i → entry_at bytes i ≡ replicate 36 0
zeros_at header bytes i entries below past =
    let none = slice_get_past header.relations i past in
    let is = entries i below in
    rw none at is

-- A spelled header's relations pass their tests.
name_passes : (size : ℕ) (header : Header) (bytes : List ℕ) → SpellsHeader size header bytes → relation_count_in bytes ≡ length header.relations → (i : ℕ) → i < 8 → has_bad_name bytes i ≡ false
name_passes size header bytes x count i below =
    elim (cases_lt i (relation_count_in bytes)) [
      | inl in_use ↦
          let here = relation_at header bytes i x.entries below (omega arith) in
          taken_branch i (relation_count_in bytes) (not (holds_name (entry_at bytes i))) (not (is_zeros (slice_range (entry_at bytes i) 0 16))) in_use
          ∙ not_of_true (holds_name (entry_at bytes i)) (holds_name-spelled here.0 (entry_at bytes i) (x.fits.relations i here.0 here.1) here.2)
      | inr past ↦
          let blank = zeros_at header bytes i x.entries below (omega arith) in
          other_branch i (relation_count_in bytes) (not (holds_name (entry_at bytes i))) (not (is_zeros (slice_range (entry_at bytes i) 0 16))) past
          ∙ not_of_true (is_zeros (slice_range (entry_at bytes i) 0 16)) (ap (λ (entry : List ℕ). is_zeros (slice_range entry 0 16)) blank)
    ]

value_passes : (size : ℕ) (header : Header) (bytes : List ℕ) → SpellsHeader size header bytes → relation_count_in bytes ≡ length header.relations → (i : ℕ) → i < 8 → has_bad_value bytes i ≡ false
value_passes size header bytes x count i below =
    elim (cases_lt i (relation_count_in bytes)) [
      | inl in_use ↦
          let here = relation_at header bytes i x.entries below (omega arith) in
          let fits = x.fits.relations i here.0 here.1 in
          let is : value_length_in (entry_at bytes i) ≡ here.0.length = ap (number_in 256) here.2.value_length ∙ number_in-little_2 here.0.length (omega (arith, fits.value_to)) in
          taken_branch i (relation_count_in bytes) (not (is_within 1 value_limit (value_length_in (entry_at bytes i)))) (not (value_length_in (entry_at bytes i) == 0)) in_use
          ∙ not_of_true (is_within 1 value_limit (value_length_in (entry_at bytes i))) (within_passes 1 value_limit (value_length_in (entry_at bytes i)) (omega (arith, is, fits.value_from)) (omega (arith, is, fits.value_to)))
      | inr past ↦
          let blank = zeros_at header bytes i x.entries below (omega arith) in
          other_branch i (relation_count_in bytes) (not (is_within 1 value_limit (value_length_in (entry_at bytes i)))) (not (value_length_in (entry_at bytes i) == 0)) past
          ∙ not_of_true (value_length_in (entry_at bytes i) == 0) (test_of_same (value_length_in (entry_at bytes i)) 0 (ap value_length_in blank))
    ]

pointers_pass : (size : ℕ) (header : Header) (bytes : List ℕ) → SpellsHeader size header bytes → relation_count_in bytes ≡ length header.relations → (i : ℕ) → i < 8 → has_bad_pointers bytes i ≡ false
pointers_pass size header bytes x count i below =
    elim (cases_lt i (relation_count_in bytes)) [
      | inl in_use ↦
          let here = relation_at header bytes i x.entries below (omega arith) in
          let fits = x.fits.relations i here.0 here.1 in
          let is : pointer_count_in (entry_at bytes i) ≡ length here.0.pointers = ap (number_in 256) here.2.pointer_count ∙ number_in-little_2 (length here.0.pointers) (omega (arith, fits.pointers_to)) in
          neither (has_bad_pointer_count bytes i) (any_below (has_bad_number (pointer_count_in (entry_at bytes i)) 20 (entry_at bytes i)) pointer_limit)
          (taken_branch i (relation_count_in bytes) (not (is_within 1 pointer_limit (pointer_count_in (entry_at bytes i)))) (not (pointer_count_in (entry_at bytes i) == 0)) in_use
          ∙ not_of_true (is_within 1 pointer_limit (pointer_count_in (entry_at bytes i))) (within_passes 1 pointer_limit (pointer_count_in (entry_at bytes i)) (omega (arith, is, fits.pointers_from)) (omega (arith, is, fits.pointers_to))))
          (numbers_pass 20 pointer_limit here.0.pointers (entry_at bytes i) fits.pointers here.2.pointers (pointer_count_in (entry_at bytes i)) is)
      | inr past ↦
          let blank = zeros_at header bytes i x.entries below (omega arith) in
          neither (has_bad_pointer_count bytes i) (any_below (has_bad_number (pointer_count_in (entry_at bytes i)) 20 (entry_at bytes i)) pointer_limit)
          (other_branch i (relation_count_in bytes) (not (is_within 1 pointer_limit (pointer_count_in (entry_at bytes i)))) (not (pointer_count_in (entry_at bytes i) == 0)) past
          ∙ not_of_true (pointer_count_in (entry_at bytes i) == 0) (test_of_same (pointer_count_in (entry_at bytes i)) 0 (ap pointer_count_in blank)))
          (numbers_pass 20 pointer_limit [] (entry_at bytes i) (λ j inside. absurd (omega arith)) (λ j inside. let width : 20 + 4 * j + 4 - (20 + 4 * j) ≡ 4 = omega arith in rw blank (range_zeros (20 + 4 * j) (20 + 4 * j + 4) 36 (omega arith) ∙ ap (λ n. replicate n 0) width)) (pointer_count_in (entry_at bytes i)) (ap pointer_count_in blank))
    ]

repeats_pass : (size : ℕ) (header : Header) (bytes : List ℕ) → SpellsHeader size header bytes → relation_count_in bytes ≡ length header.relations → any_below (repeats_name bytes) (relation_count_in bytes) ≡ false
repeats_pass size header bytes x count =
    let few : length header.relations ≤ 8 = x.fits.relations_to in
    any_below-none (repeats_name bytes) (relation_count_in bytes) (λ i in_use.
    any_below-none (λ j. bytes_eq (name_in (entry_at bytes j)) (name_in (entry_at bytes i))) i (λ j earlier.
    let late = relation_at header bytes i x.entries (omega arith) (omega arith) in
    let early = relation_at header bytes j x.entries (omega arith) (omega arith) in
    let late_name = name_in-spelled late.0 (entry_at bytes i) (is_name-short late.0.name (x.fits.relations i late.0 late.1).name) late.2 in
    let early_name = name_in-spelled early.0 (entry_at bytes j) (is_name-short early.0.name (x.fits.relations j early.0 early.1).name) early.2 in
    bytes_fail (name_in (entry_at bytes j)) (name_in (entry_at bytes i)) (λ same.
    let one : j ≡ i = x.fits.names j i early.0 late.0 early.1 late.1 (sym early_name ∙ (same ∙ late_name)) in
    absurd (omega arith))))

-- The tests of the counts pass.
next_passes : (size : ℕ) (header : Header) (bytes : List ℕ) → IsHeader size header → NumbersAre header bytes → has_bad_next size bytes ≡ false
next_passes size header bytes fits are =
    neither (next_in bytes == 0 || nat_lt (transaction_limit size) (next_in bytes)) (nat_lt (tip_numbers size * tip_count_in bytes) (next_in bytes))
    (neither (next_in bytes == 0) (nat_lt (transaction_limit size) (next_in bytes))
    (test_of_different (next_in bytes) 0 (λ none. absurd (omega (arith, are.next, fits.next_from))))
    (order_fails (transaction_limit size) (next_in bytes) (omega (arith, are.next, fits.next_to))))
    (order_fails (tip_numbers size * tip_count_in bytes) (next_in bytes) (rw (are.next, are.tip_count) fits.next_stands))

count_passes : (size : ℕ) (header : Header) (bytes : List ℕ) → IsHeader size header → NumbersAre header bytes → has_bad_count bytes ≡ false
count_passes size header bytes fits are =
    four_none (not (is_within 1 relation_limit (relation_count_in bytes))) (not (is_within 1 inventory_limit (inventory_count_in bytes))) (not (is_within 1 tip_limit (tip_count_in bytes))) (not (number_at 42 44 bytes == 0))
    (not_of_true (is_within 1 relation_limit (relation_count_in bytes)) (within_passes 1 relation_limit (relation_count_in bytes) (omega (arith, are.relation_count, fits.relations_from)) (omega (arith, are.relation_count, fits.relations_to))))
    (not_of_true (is_within 1 inventory_limit (inventory_count_in bytes)) (within_passes 1 inventory_limit (inventory_count_in bytes) (omega (arith, are.inventory_count, fits.inventories_from)) (omega (arith, are.inventory_count, fits.inventories_to))))
    (not_of_true (is_within 1 tip_limit (tip_count_in bytes)) (within_passes 1 tip_limit (tip_count_in bytes) (omega (arith, are.tip_count, fits.tips_from)) (omega (arith, are.tip_count, fits.tips_to))))
    (not_of_true (number_at 42 44 bytes == 0) (test_of_same (number_at 42 44 bytes) 0 are.unused))

-- A spelled header breaks no rule.
pub SpellsHeader-unbroken : (size : ℕ) (header : Header) (bytes : List ℕ) → IsPageSize size → SpellsHeader size header bytes → broken_header size bytes ≡ None
SpellsHeader-unbroken size header bytes is x =
    let are = numbers_are size header bytes is x in
    let plain : IsPlainHead 1 0 0 = record { no_relation = λ low. refl; no_sequence = λ first. refl } in
    let head = HasHead-unbroken 1 0 0 0 bytes (omega arith) (omega arith) (omega arith) plain x.head in
    let mark : has_mark bytes ≡ true = bytes_pass (slice_range bytes 16 24) (codes "FBCPAGES") x.magic in
    let sized : (page_size_in bytes == size) ≡ true = test_of_same (page_size_in bytes) size (are.page_size ∙ x.fits.page_size) in
    let version : (version_in bytes == 1) ≡ true = test_of_same (version_in bytes) 1 are.version in
    let front : broken_front (page_size_in bytes == size) bytes ≡ None = rw (mark, sized, version) refl in
    let next = next_passes size header bytes x.fits are in
    let count = count_passes size header bytes x.fits are in
    let counts : broken_counts size bytes ≡ None = rw (next, count) refl in
    let names : has_bad_names bytes ≡ false = neither (any_below (has_bad_name bytes) relation_limit) (any_below (repeats_name bytes) (relation_count_in bytes))
    (any_below-none (has_bad_name bytes) relation_limit (name_passes size header bytes x are.relation_count)) (repeats_pass size header bytes x are.relation_count) in
    let values : has_bad_values bytes ≡ false = any_below-none (has_bad_value bytes) relation_limit (value_passes size header bytes x are.relation_count) in
    let pointers : has_some_bad_pointers bytes ≡ false = any_below-none (has_bad_pointers bytes) relation_limit (pointers_pass size header bytes x are.relation_count) in
    let relations : broken_relations bytes ≡ None = rw (names, values, pointers) refl in
    let tips : has_bad_tips bytes ≡ false = numbers_pass 336 tip_limit header.tips bytes x.fits.tips x.tips (tip_count_in bytes) are.tip_count in
    let oldest : has_bad_oldest bytes ≡ false = not_of_true (number_at 44 48 bytes == 0) (test_of_same (number_at 44 48 bytes) 0 are.oldest) in
    let rest : has_bad_rest bytes ≡ false = not_of_true (is_zeros (drop 400 bytes)) (ap is_zeros x.rest ∙ is_zeros-replicate (size - 400)) in
    let ending : broken_end bytes ≡ None = rw (tips, oldest, rest) refl in
    rw (head, front, counts, relations, ending) refl
