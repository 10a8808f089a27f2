use Rattle.std.specs.Prelude.{◌^◌, ◌==◌, ◌&&◌, ◌||◌, Option, None, not, if◌then◌else◌, ◌≡◌, ◌<◌, ◌+◌, ◌*◌, ◌-◌, ◌/◌, ◌%◌, ℕ, Bool, true, false, List, [], ◌∷◌, Some, length, map, slice_get, slice_index, slice_index_or}
use Rattle.fbc_kinds.specs.declared.rules.Rule.{Rule}
use Rattle.fbc_kinds.specs.declared.rules.Rule.TheVariants as rule
use Rattle.fbc_kinds.specs.declared.pages.Inventory.{Inventory}
use Rattle.fbc_kinds.specs.Limits.{inventory_bits, number_limit}
use Rattle.fbc_kinds.specs.Head.{HasHead, number_in, sequence_in, broken_head, or_else}

-- A mark as a bit.
abbrev pub mark_bit : Bool → ℕ
mark_bit true = 1
mark_bit false = 0

-- The bit of the mark at place `i`.
abbrev pub bit_at : List Bool → ℕ → ℕ
bit_at taken i = mark_bit (slice_index_or taken i false)

-- Byte `k` of the marks holds eight of them, the lowest page in the lowest bit.
abbrev pub marks_byte : List Bool → ℕ → ℕ
marks_byte taken k = number_in 2 (map (λ j. bit_at taken (8 * k + j)) (0 ∷ 1 ∷ 2 ∷ 3 ∷ 4 ∷ 5 ∷ 6 ∷ 7 ∷ []))

-- A page inventory within its limits: it shows itself as taken where it covers itself, and the header.
pub record IsInventory (size : ℕ) (inventory : Inventory) : Type 0 where
  pub page : inventory.page < number_limit
  pub sequence : inventory.sequence < number_limit
  pub count : length inventory.taken ≡ inventory_bits size
  pub own : inventory.page / inventory_bits size ≡ inventory.sequence → slice_get inventory.taken (inventory.page % inventory_bits size) ≡ Some true
  pub header : inventory.sequence ≡ 0 → slice_get inventory.taken 0 ≡ Some true

-- These bytes spell this page inventory.
pub record SpellsInventory (size : ℕ) (inventory : Inventory) (bytes : List ℕ) : Type 0 where
  pub fits : IsInventory size inventory
  pub size_is : length bytes ≡ size
  pub head : HasHead 2 0 inventory.page inventory.sequence bytes
  pub marks : (k : ℕ) → k < size - 16 → slice_index bytes (16 + k) ≡ marks_byte inventory.taken k

-- The mark of the page at place `i`: bit i mod 8, the lowest first, of byte 16 + i / 8.
abbrev pub is_bit_set : List ℕ → ℕ → Bool
is_bit_set bytes i = slice_index bytes (16 + i / 8) / 2 ^ (i % 8) % 2 == 1

-- It covers itself and shows itself as free.
abbrev pub hides_itself : ℕ → ℕ → List ℕ → Bool
hides_itself size page bytes = page / inventory_bits size == sequence_in bytes && not (is_bit_set bytes (page % inventory_bits size))

-- It covers the header and shows it as free.
abbrev pub hides_header : List ℕ → Bool
hides_header bytes = sequence_in bytes == 0 && not (is_bit_set bytes 0)

-- The rule of the marks, where it is broken.
abbrev pub broken_marks : ℕ → ℕ → List ℕ → Option Rule
broken_marks size page bytes = if hides_itself size page bytes || hides_header bytes then Some rule.Bits else None

-- The first rule that the bytes of a page inventory of this number break.
abbrev pub broken_inventory : ℕ → ℕ → List ℕ → Option Rule
broken_inventory size page bytes = or_else (broken_head 2 page bytes) (broken_marks size page bytes)
