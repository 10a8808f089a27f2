use Rattle.std.specs.Prelude.{◌≡◌, ◌<◌, ℕ, nat_le, if◌then◌else◌, List, length, drop, Option, Some, None}
use Rattle.std.specs.List.{All, flat_map}
use Rattle.fbc_kinds.specs.declared.pages.Pointer.{Pointer}
use Rattle.fbc_kinds.specs.declared.rules.Rule.{Rule}
use Rattle.fbc_kinds.specs.declared.rules.Rule.TheVariants as rule
use Rattle.fbc_kinds.specs.Limits.{number_limit, relation_limit, slots}
use Rattle.fbc_kinds.specs.Head.{HasHead, broken_head, little_bytes, or_else, relation_in}

-- A pointer page within its limits: it has all its slots, and its relation is one of eight.
pub record IsPointer (size : ℕ) (pointer : Pointer) : Type 0 where
  pub page_fits : pointer.page < number_limit
  pub sequence_fits : pointer.sequence < number_limit
  pub relation_fits : pointer.relation < relation_limit
  pub count : length pointer.slots ≡ slots size
  pub slots_fit : All (λ number. number < number_limit) pointer.slots

-- The bytes of a pointer page: the head, and then four bytes for each slot.
pub record SpellsPointer (size : ℕ) (pointer : Pointer) (bytes : List ℕ) : Type 0 where
  pub fits : IsPointer size pointer
  pub size_is : length bytes ≡ size
  pub head : HasHead 4 pointer.relation pointer.page pointer.sequence bytes
  pub slots_are : drop 16 bytes ≡ flat_map (little_bytes 4) pointer.slots

-- A pointer page or a data page is of one of eight relations.
abbrev pub broken_relation : List ℕ → Option Rule
broken_relation bytes = if nat_le relation_limit (relation_in bytes) then Some rule.Relation else None

-- The first rule that the head of a page of a relation breaks.
abbrev pub broken_start : ℕ → ℕ → List ℕ → Option Rule
broken_start kind page bytes = or_else (broken_head kind page bytes) (broken_relation bytes)

-- The first rule that these bytes break as the pointer page of that number.
abbrev pub broken_pointer : ℕ → List ℕ → Option Rule
broken_pointer page bytes = broken_start 4 page bytes
