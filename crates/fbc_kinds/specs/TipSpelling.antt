use Rattle.std.specs.Prelude.{◌/◌, ◌%◌, ◌==◌, ◌&&◌, ◌||◌, Bool, Option, None, not, drop, if◌then◌else◌, ◌≡◌, ◌≢◌, ◌<◌, ◌+◌, ◌*◌, ◌-◌, ℕ, List, [], ◌∷◌, Some, length, map, slice_get, slice_index, slice_index_or}
use Rattle.std.specs.List.{list_any}
use Rattle.fbc_kinds.specs.declared.rules.Rule.{Rule}
use Rattle.fbc_kinds.specs.declared.rules.Rule.TheVariants as rule
use Rattle.fbc_kinds.specs.declared.pages.State.{State}
use Rattle.fbc_kinds.specs.declared.pages.State.TheVariants.{Active, Limbo, Dead, Committed}
use Rattle.fbc_kinds.specs.declared.pages.Tip.{Tip}
use Rattle.fbc_kinds.specs.Limits.{tip_numbers, number_limit}
use Rattle.fbc_kinds.specs.Head.{HasHead, number_in, sequence_in, broken_head, or_else}

-- A state's two bits, as a number.
abbrev pub state_code : State → ℕ
state_code Active = 0
state_code Limbo = 1
state_code Dead = 2
state_code Committed = 3

-- The state that a number of two bits stands for.
abbrev pub state_of_code : ℕ → State
state_of_code code = if code == 0 then Active else if code == 1 then Limbo else if code == 2 then Dead else Committed

-- The two bits of the state at place `i`.
abbrev pub code_at : List State → ℕ → ℕ
code_at states i = state_code (slice_index_or states i Active)

-- Byte `k` of the states holds four of them, the lowest number in the lowest bits.
abbrev pub states_byte : List State → ℕ → ℕ
states_byte states k = number_in 4 (map (λ j. code_at states (4 * k + j)) (0 ∷ 1 ∷ 2 ∷ 3 ∷ []))

-- A transaction inventory page within its limits.
pub record IsTip (size : ℕ) (tip : Tip) : Type 0 where
  pub page : tip.page < number_limit
  pub sequence : tip.sequence < number_limit
  pub count : length tip.states ≡ tip_numbers size
  pub zero : tip.sequence ≡ 0 → slice_get tip.states 0 ≡ Some Active
  pub state : (i : ℕ) → slice_get tip.states i ≢ Some Limbo

-- These bytes spell this transaction inventory page.
pub record SpellsTip (size : ℕ) (tip : Tip) (bytes : List ℕ) : Type 0 where
  pub fits : IsTip size tip
  pub size_is : length bytes ≡ size
  pub head : HasHead 3 0 tip.page tip.sequence bytes
  pub states : (k : ℕ) → k < size - 16 → slice_index bytes (16 + k) ≡ states_byte tip.states k

-- The number 0 has a state.
abbrev pub has_bad_zero : List ℕ → Bool
has_bad_zero bytes = sequence_in bytes == 0 && not (slice_index bytes 16 % 4 == 0)

-- One of the four states of a byte is the one that none may have.
abbrev pub byte_has_limbo : ℕ → Bool
byte_has_limbo byte = byte % 4 == 1 || byte / 4 % 4 == 1 || byte / 16 % 4 == 1 || byte / 64 % 4 == 1

-- A transaction has the state that none may have.
abbrev pub has_bad_state : List ℕ → Bool
has_bad_state bytes = list_any byte_has_limbo (drop 16 bytes)

-- The first rule of the states that is broken.
abbrev pub broken_states : List ℕ → Option Rule
broken_states bytes = if has_bad_zero bytes then Some rule.Zero else if has_bad_state bytes then Some rule.State else None

-- The first rule that the bytes of a transaction inventory page of this number break.
abbrev pub broken_tip : ℕ → List ℕ → Option Rule
broken_tip page bytes = or_else (broken_head 3 page bytes) (broken_states bytes)
