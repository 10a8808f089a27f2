use Rattle.std.proofs.Common.{◌≡◌, ◌+◌, ◌-◌, ◌*◌, ◌/◌, ◌%◌, ◌^◌, ◌<◌, ◌||◌, ◌==◌, ℕ, Bool, true, false, not, List, length, get_or, Some, refl, sym, ap, ◌∙◌, arith, if◌then◌else◌}
use Rattle.std.specs.Prelude.{None, slice_get, slice_index, slice_index_or}
use Rattle.std.proofs.lemmas.Option.{slice_get-get_or, get_or_from_slice_get}
use Rattle.fbc_kinds.specs.declared.rules.Rule.TheVariants as rule
use Rattle.fbc_kinds.specs.declared.pages.Inventory.{Inventory}
use Rattle.fbc_kinds.specs.Head.{HasHead, number_in, sequence_in}
use Rattle.fbc_kinds.specs.Limits.{inventory_bits}
use Rattle.fbc_kinds.specs.InventorySpelling.{SpellsInventory, mark_bit, bit_at, marks_byte, is_bit_set, hides_itself, hides_header, broken_marks, broken_inventory}
use Rattle.fbc_kinds.proofs.Heads.{true_from_not, IsPlainHead, HasHead-unbroken}
use Rattle.fbc_kinds.proofs.Numbers.{number_in-little_4}
use Rattle.fbc_kinds.proofs.Tests.{and_fails, fails_under, same_from_test, test_of_same, not_of_true}
use Rattle.fbc_kinds.proofs.InventoryLaws.{mark_bit-small, by_place}

-- The lowest binary digit and the rest of a number.
pub record LowDigit (number a rest : ℕ) : Type 0 where
  pub digit : number % 2 ≡ a
  pub rest_is : number / 2 ≡ rest

low_digit : (number a rest : ℕ) → a < 2 → number ≡ a + 2 * rest → LowDigit number a rest
low_digit number a rest small is = record { digit = omega arith; rest_is = omega arith }

-- The test of a bit gives its mark.
test_of_bit : (mark : Bool) → (mark_bit mark == 1) ≡ mark
test_of_bit true = refl
test_of_bit false = refl

-- The bits of a byte, one after the other.
bits_at : (taken : List Bool) (k byte r : ℕ) → byte ≡ marks_byte taken k → r < 8 → byte / 2 ^ r % 2 ≡ bit_at taken (8 * k + r)
bits_at taken k byte r is below =
    let d0 = low_digit byte _ _ (mark_bit-small _) is in
    let d1 = low_digit (byte / 2) _ _ (mark_bit-small _) d0.rest_is in
    let d2 = low_digit (byte / 2 / 2) _ _ (mark_bit-small _) d1.rest_is in
    let d3 = low_digit (byte / 2 / 2 / 2) _ _ (mark_bit-small _) d2.rest_is in
    let d4 = low_digit (byte / 2 / 2 / 2 / 2) _ _ (mark_bit-small _) d3.rest_is in
    let d5 = low_digit (byte / 2 / 2 / 2 / 2 / 2) _ _ (mark_bit-small _) d4.rest_is in
    let d6 = low_digit (byte / 2 / 2 / 2 / 2 / 2 / 2) _ _ (mark_bit-small _) d5.rest_is in
    let d7 = low_digit (byte / 2 / 2 / 2 / 2 / 2 / 2 / 2) _ 0 (mark_bit-small _) d6.rest_is in
    by_place (λ r. byte / 2 ^ r % 2 ≡ bit_at taken (8 * k + r))
    (omega (arith, d0.digit)) (omega (arith, d1.digit)) (omega (arith, d2.digit)) (omega (arith, d3.digit)) (omega (arith, d4.digit)) (omega (arith, d5.digit)) (omega (arith, d6.digit)) (omega (arith, d7.digit)) r below

-- The mark in the bytes is the mark in the list.
pub is_bit_set-marks : (n : ℕ) (taken : List Bool) (bytes : List ℕ) → ((k : ℕ) → k < n → get_or bytes (16 + k) 0 ≡ marks_byte taken k) → (i : ℕ) → i < n * 8 → is_bit_set bytes i ≡ slice_index_or taken i false
is_bit_set-marks n taken bytes spelled i below =
    let place : 8 * (i / 8) + i % 8 ≡ i = omega arith in
    let bit = bits_at taken (i / 8) (get_or bytes (16 + i / 8) 0) (i % 8) (spelled (i / 8) (omega arith)) (omega arith) in
    ap (λ (b : ℕ). b == 1) bit ∙ (ap (λ (p : ℕ). bit_at taken p == 1) place ∙ test_of_bit (slice_index_or taken i false))

-- A mark in the bytes is a mark in the list, and the other way round.
marked_from_bytes : (n : ℕ) (taken : List Bool) (bytes : List ℕ) → length taken ≡ n * 8 → ((k : ℕ) → k < n → get_or bytes (16 + k) 0 ≡ marks_byte taken k) → (i : ℕ) → i < n * 8 → is_bit_set bytes i ≡ true → slice_get taken i ≡ Some true
marked_from_bytes n taken bytes count spelled i below is =
    slice_get-get_or taken i false (omega arith) ∙ ap Some (sym (is_bit_set-marks n taken bytes spelled i below) ∙ is)

marked_in_bytes : (n : ℕ) (taken : List Bool) (bytes : List ℕ) → ((k : ℕ) → k < n → get_or bytes (16 + k) 0 ≡ marks_byte taken k) → (i : ℕ) → i < n * 8 → slice_get taken i ≡ Some true → is_bit_set bytes i ≡ true
marked_in_bytes n taken bytes spelled i below is =
    is_bit_set-marks n taken bytes spelled i below ∙ get_or_from_slice_get taken i true false is

-- What the rule of the marks says where it is not broken.
marks_pass : (a b : Bool) → (if a || b then Some rule.Bits else None) ≡ None → (a ≡ false) × (b ≡ false)
marks_pass false false unbroken = (refl, refl)
marks_pass false true unbroken = cc
marks_pass true b unbroken = cc

-- The page that was read from bytes without a broken rule is the one that they spell.
pub SpellsInventory-read : (size page sequence : ℕ) (taken : List Bool) (bytes : List ℕ) → 16 < size → length bytes ≡ size → page < 2 ^ 32 → sequence < 2 ^ 32 → sequence ≡ sequence_in bytes → HasHead 2 0 page sequence bytes → length taken ≡ 8 * (length bytes - 16) → ((k : ℕ) → k < length bytes - 16 → slice_index bytes (16 + k) ≡ marks_byte taken k) → broken_marks size page bytes ≡ None → SpellsInventory size (record { page = page; sequence = sequence; taken = taken }) bytes
SpellsInventory-read size page sequence taken bytes large long page_fits sequence_fits named head count spelled unbroken =
    let passes = marks_pass (hides_itself size page bytes) (hides_header bytes) unbroken in
    let n : ℕ = size - 16 in
    let all : length taken ≡ (size - 16) * 8 = omega arith in
    let marks : (k : ℕ) → k < size - 16 → get_or bytes (16 + k) 0 ≡ marks_byte taken k = λ k below. spelled k (omega arith) in
    record {
      fits = record {
        page = page_fits;
        sequence = sequence_fits;
        count = all;
        own = λ covered.
            let due = test_of_same (page / inventory_bits size) (sequence_in bytes) (covered ∙ named) in
            let test = fails_under (page / inventory_bits size == sequence_in bytes) (not (is_bit_set bytes (page % inventory_bits size))) passes.0 due in
            marked_from_bytes (size - 16) taken bytes all marks (page % inventory_bits size) (omega arith) (true_from_not (is_bit_set bytes (page % inventory_bits size)) test);
        header = λ first.
            let due = test_of_same (sequence_in bytes) 0 (sym named ∙ first) in
            let test = fails_under (sequence_in bytes == 0) (not (is_bit_set bytes 0)) passes.1 due in
            marked_from_bytes (size - 16) taken bytes all marks 0 (omega arith) (true_from_not (is_bit_set bytes 0) test);
      };
      size_is = long;
      head = head;
      marks = marks;
    }

-- A spelled page inventory breaks no rule of its marks.
pub SpellsInventory-unbroken : (size : ℕ) (inventory : Inventory) (bytes : List ℕ) → 16 < size → SpellsInventory size inventory bytes → broken_marks size inventory.page bytes ≡ None
SpellsInventory-unbroken size inventory bytes large x =
    let named : sequence_in bytes ≡ inventory.sequence = ap (number_in 256) x.head.sequence_is ∙ number_in-little_4 inventory.sequence x.fits.sequence in
    let own : hides_itself size inventory.page bytes ≡ false = and_fails (inventory.page / inventory_bits size == sequence_in bytes) (not (is_bit_set bytes (inventory.page % inventory_bits size))) (λ covered.
    let due = same_from_test (inventory.page / inventory_bits size) (sequence_in bytes) covered in
    not_of_true (is_bit_set bytes (inventory.page % inventory_bits size)) (marked_in_bytes (size - 16) inventory.taken bytes x.marks (inventory.page % inventory_bits size) (omega arith) (x.fits.own (due ∙ named)))) in
    let header : hides_header bytes ≡ false = and_fails (sequence_in bytes == 0) (not (is_bit_set bytes 0)) (λ first.
    let due = same_from_test (sequence_in bytes) 0 first in
    not_of_true (is_bit_set bytes 0) (marked_in_bytes (size - 16) inventory.taken bytes x.marks 0 (omega arith) (x.fits.header (sym named ∙ due)))) in
    rw (own, header) refl

-- A spelled page inventory breaks no rule.
pub inventory-unbroken : (size : ℕ) (inventory : Inventory) (bytes : List ℕ) → 16 < size → SpellsInventory size inventory bytes → broken_inventory size inventory.page bytes ≡ None
inventory-unbroken size inventory bytes large x =
    let plain : IsPlainHead 2 0 inventory.sequence = record { no_relation = λ low. refl; no_sequence = λ first. absurd (omega arith) } in
    let head = HasHead-unbroken 2 0 inventory.page inventory.sequence bytes (omega arith) x.fits.page x.fits.sequence plain x.head in
    let marks = SpellsInventory-unbroken size inventory bytes large x in
    rw (head, marks) refl
