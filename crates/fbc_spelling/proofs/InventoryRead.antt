-- The page inventory that bytes spell where they break no rule.
use Rattle.std.proofs.Common.{◌≡◌, ◌<◌, ◌+◌, ◌-◌, ◌*◌, ◌/◌, ◌%◌, ◌^◌, ◌==◌, ℕ, zero, suc, Bool, false, List, length, map, None, refl, subst, ap, ◌∙◌, arith}
use Rattle.std.specs.Prelude.{slice_index}
use Rattle.std.specs.List.{range_with_len}
use Rattle.std.proofs.lemmas.List.FromFn.{length-map-range_with_len, get_or-map-range_with_len}
use Rattle.fbc_kinds.specs.declared.pages.Inventory.{Inventory}
use Rattle.fbc_kinds.specs.Head.{HasHead, broken_head, sequence_in}
use Rattle.fbc_kinds.specs.InventorySpelling.{SpellsInventory, bit_at, broken_inventory, broken_marks, is_bit_set, mark_bit, marks_byte}
use Rattle.fbc_kinds.proofs.HeaderRules.{both_unbroken}
use Rattle.fbc_kinds.proofs.InventoryRules.{SpellsInventory-read}
use Rattle.fbc_cells.proofs.NumberBytes.{numbers_of_bytes}
use Rattle.fbc_spelling.proofs.ByteLists.{AreBytes}
use Rattle.fbc_spelling.proofs.HeadRead.{head_read}

-- The marks that stand in so many bytes.
abbrev marks_in : ℕ → List ℕ → List Bool
marks_in count bytes = map (is_bit_set bytes) (range_with_len 0 (8 * count))

-- The page inventory that the bytes spell.
abbrev pub inventory_in : ℕ → List ℕ → Inventory
inventory_in page bytes = record { page = page; sequence = sequence_in bytes; taken = marks_in (length bytes - 16) bytes }

-- The bit of the mark of a digit is that digit.
bit_of_digit : (digit : ℕ) → digit < 2 → mark_bit (digit == 1) ≡ digit
bit_of_digit zero small = refl
bit_of_digit (suc zero) small = refl
bit_of_digit (suc (suc n)) small = absurd (omega arith)

bit_read : (bytes : List ℕ) (count k j : ℕ) → k < count → j < 8 → bit_at (marks_in count bytes) (8 * k + j) ≡ slice_index bytes (16 + k) / 2 ^ j % 2
bit_read bytes count k j inside below =
    let byte : (8 * k + j) / 8 ≡ k = omega arith in
    let place : (8 * k + j) % 8 ≡ j = omega arith in
    let listed = get_or-map-range_with_len (is_bit_set bytes) 0 (8 * count) (8 * k + j) (8 * k + j) false (omega arith) (omega arith) in
    ap mark_bit listed
    ∙ ap (λ b. mark_bit (slice_index bytes (16 + b) / 2 ^ ((8 * k + j) % 8) % 2 == 1)) byte
    ∙ ap (λ p. mark_bit (slice_index bytes (16 + k) / 2 ^ p % 2 == 1)) place
    ∙ bit_of_digit (slice_index bytes (16 + k) / 2 ^ j % 2) (omega arith)

-- The eight bits of a byte make the byte.
eight_bits : (byte : ℕ) → byte < 256
    → byte ≡ byte / 1 % 2 + 2 * (byte / 2 % 2 + 2 * (byte / 4 % 2 + 2 * (byte / 8 % 2 + 2 * (byte / 16 % 2 + 2 * (byte / 32 % 2 + 2 * (byte / 64 % 2 + 2 * (byte / 128 % 2 + 0)))))))
eight_bits byte small = omega arith

marks_read : (bytes : List ℕ) (count k : ℕ) → AreBytes bytes → k < count → slice_index bytes (16 + k) ≡ marks_byte (marks_in count bytes) k
marks_read bytes count k small inside =
    let b0 = bit_read bytes count k 0 inside (omega arith) in
    let b1 = bit_read bytes count k 1 inside (omega arith) in
    let b2 = bit_read bytes count k 2 inside (omega arith) in
    let b3 = bit_read bytes count k 3 inside (omega arith) in
    let b4 = bit_read bytes count k 4 inside (omega arith) in
    let b5 = bit_read bytes count k 5 inside (omega arith) in
    let b6 = bit_read bytes count k 6 inside (omega arith) in
    let b7 = bit_read bytes count k 7 inside (omega arith) in
    let sum = eight_bits (slice_index bytes (16 + k)) (small (16 + k)) in
    rw (b0, b1, b2, b3, b4, b5, b6, b7) sum

module _ (size page : ℕ) (bytes : List ℕ) (large : 16 < size) (small : AreBytes bytes) (long : length bytes ≡ size) (unbroken : broken_inventory size page bytes ≡ None) where
  pub inventory_spelled : SpellsInventory size (inventory_in page bytes) bytes
  inventory_spelled =
      let both = both_unbroken (broken_head 2 page bytes) (broken_marks size page bytes) unbroken in
      let read = head_read 2 page bytes (numbers_of_bytes bytes small (omega arith)) (omega arith) both.0 in
      let P : ℕ → Type 0 = λ relation. HasHead 2 relation page (sequence_in bytes) bytes in
      SpellsInventory-read size page (sequence_in bytes) (marks_in (length bytes - 16) bytes) bytes large long read.page_fits read.sequence_fits refl
      (subst P (read.no_relation (omega arith)) read.head) (length-map-range_with_len (is_bit_set bytes) 0 (8 * (length bytes - 16)))
      (λ k below. marks_read bytes (length bytes - 16) k small below) both.1
