-- The transaction inventory page that bytes spell where they break no rule.
use Rattle.std.proofs.Common.{◌≡◌, ◌<◌, ◌+◌, ◌-◌, ◌*◌, ◌/◌, ◌%◌, ◌^◌, ℕ, List, length, map, None, refl, subst, ap, ◌∙◌, arith}
use Rattle.std.specs.Prelude.{slice_index}
use Rattle.std.specs.List.{range_with_len}
use Rattle.std.proofs.lemmas.List.FromFn.{length-map-range_with_len, get_or-map-range_with_len}
use Rattle.fbc_kinds.specs.declared.pages.State.{State}
use Rattle.fbc_kinds.specs.declared.pages.State.TheVariants.{Active}
use Rattle.fbc_kinds.specs.declared.pages.Tip.{Tip}
use Rattle.fbc_kinds.specs.Head.{HasHead, broken_head, sequence_in}
use Rattle.fbc_kinds.specs.TipSpelling.{SpellsTip, broken_states, broken_tip, code_at, state_code, state_of_code, states_byte}
use Rattle.fbc_kinds.proofs.HeaderRules.{both_unbroken}
use Rattle.fbc_kinds.proofs.TipLaws.{state_code-state_of_code}
use Rattle.fbc_kinds.proofs.TipRules.{SpellsTip-read}
use Rattle.fbc_cells.proofs.NumberBytes.{numbers_of_bytes}
use Rattle.fbc_spelling.proofs.ByteLists.{AreBytes}
use Rattle.fbc_spelling.proofs.HeadRead.{head_read}

-- The state at a place, and the states that stand in so many bytes.
abbrev state_at : List ℕ → ℕ → State
state_at bytes i = state_of_code (slice_index bytes (16 + i / 4) / 4 ^ (i % 4) % 4)

abbrev states_in : ℕ → List ℕ → List State
states_in count bytes = map (state_at bytes) (range_with_len 0 (4 * count))

-- The transaction inventory page that the bytes spell.
abbrev pub tip_in : ℕ → List ℕ → Tip
tip_in page bytes = record { page = page; sequence = sequence_in bytes; states = states_in (length bytes - 16) bytes }

code_read : (bytes : List ℕ) (count k j : ℕ) → k < count → j < 4 → code_at (states_in count bytes) (4 * k + j) ≡ slice_index bytes (16 + k) / 4 ^ j % 4
code_read bytes count k j inside below =
    let byte : (4 * k + j) / 4 ≡ k = omega arith in
    let place : (4 * k + j) % 4 ≡ j = omega arith in
    let listed = get_or-map-range_with_len (state_at bytes) 0 (4 * count) (4 * k + j) (4 * k + j) Active (omega arith) (omega arith) in
    ap state_code listed
    ∙ ap (λ b. state_code (state_of_code (slice_index bytes (16 + b) / 4 ^ ((4 * k + j) % 4) % 4))) byte
    ∙ ap (λ p. state_code (state_of_code (slice_index bytes (16 + k) / 4 ^ p % 4))) place
    ∙ state_code-state_of_code (slice_index bytes (16 + k) / 4 ^ j % 4) (omega arith)

-- The four codes of a byte make the byte.
four_codes : (byte : ℕ) → byte < 256 → byte ≡ byte / 1 % 4 + 4 * (byte / 4 % 4 + 4 * (byte / 16 % 4 + 4 * (byte / 64 % 4 + 0)))
four_codes byte small = omega arith

states_read : (bytes : List ℕ) (count k : ℕ) → AreBytes bytes → k < count → slice_index bytes (16 + k) ≡ states_byte (states_in count bytes) k
states_read bytes count k small inside =
    let a = code_read bytes count k 0 inside (omega arith) in
    let b = code_read bytes count k 1 inside (omega arith) in
    let c = code_read bytes count k 2 inside (omega arith) in
    let d = code_read bytes count k 3 inside (omega arith) in
    let sum = four_codes (slice_index bytes (16 + k)) (small (16 + k)) in
    rw (a, b, c, d) sum

module _ (size page : ℕ) (bytes : List ℕ) (large : 16 < size) (small : AreBytes bytes) (long : length bytes ≡ size) (unbroken : broken_tip page bytes ≡ None) where
  pub tip_spelled : SpellsTip size (tip_in page bytes) bytes
  tip_spelled =
      let both = both_unbroken (broken_head 3 page bytes) (broken_states bytes) unbroken in
      let read = head_read 3 page bytes (numbers_of_bytes bytes small (omega arith)) (omega arith) both.0 in
      let P : ℕ → Type 0 = λ relation. HasHead 3 relation page (sequence_in bytes) bytes in
      SpellsTip-read size page (sequence_in bytes) (states_in (length bytes - 16) bytes) bytes large long read.page_fits read.sequence_fits refl
      (subst P (read.no_relation (omega arith)) read.head) (length-map-range_with_len (state_at bytes) 0 (4 * (length bytes - 16)))
      (λ k below. states_read bytes (length bytes - 16) k small below) both.1
