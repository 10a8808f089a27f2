use Rattle.std.proofs.Common.{◌≡◌, ◌≢◌, ◌+◌, ◌-◌, ◌*◌, ◌/◌, ◌%◌, ◌^◌, ◌<◌, ◌||◌, ◌==◌, if◌then◌else◌, ℕ, zero, suc, Bool, true, false, not, List, length, get_or, drop, Some, refl, sym, ap, ◌∙◌, arith}
use Rattle.std.specs.Prelude.{None, slice_get, slice_index, slice_index_or}
use Rattle.std.proofs.lemmas.List.{get_or-drop, length-drop}
use Rattle.std.proofs.lemmas.Option.{slice_get-get_or, get_or_from_slice_get, slice_get_within}
use Rattle.fbc_kinds.specs.declared.rules.Rule.TheVariants as rule
use Rattle.fbc_kinds.specs.declared.pages.State.{State}
use Rattle.fbc_kinds.specs.declared.pages.State.TheVariants.{Active, Limbo}
use Rattle.fbc_kinds.specs.declared.pages.Tip.{Tip}
use Rattle.fbc_kinds.specs.Head.{HasHead, number_in, sequence_in}
use Rattle.fbc_kinds.specs.TipSpelling.{SpellsTip, state_code, state_of_code, code_at, states_byte, has_bad_zero, has_bad_state, byte_has_limbo, broken_states, broken_tip}
use Rattle.fbc_kinds.proofs.Heads.{true_from_not, IsPlainHead, HasHead-unbroken}
use Rattle.fbc_kinds.proofs.Numbers.{number_in-little_4}
use Rattle.fbc_kinds.proofs.Tests.{both_fail, neither, list_any-fails, list_any-none, same_from_test, differ_from_test, test_of_same, test_of_different, fails_under, not_of_true, and_fails}
use Rattle.fbc_kinds.proofs.TipLaws.{state_code-small, state_of_code-state_code}

-- The code at a place is that digit of its byte.
pub record FourDigits (byte a b c d : ℕ) : Type 0 where
  pub first : byte % 4 ≡ a
  pub second : byte / 4 % 4 ≡ b
  pub third : byte / 16 % 4 ≡ c
  pub fourth : byte / 64 % 4 ≡ d

four_digits : (byte a b c d : ℕ) → a < 4 → b < 4 → c < 4 → d < 4 → byte ≡ a + 4 * (b + 4 * (c + 4 * (d + 0))) → FourDigits byte a b c d
four_digits byte a b c d ha hb hc hd is = record { first = omega arith; second = omega arith; third = omega arith; fourth = omega arith }

pub digits_at : (states : List State) (k byte : ℕ) → byte ≡ states_byte states k → FourDigits byte (code_at states (4 * k + 0)) (code_at states (4 * k + 1)) (code_at states (4 * k + 2)) (code_at states (4 * k + 3))
digits_at states k byte is = four_digits byte _ _ _ _ (state_code-small _) (state_code-small _) (state_code-small _) (state_code-small _) is

-- The tests of one byte, by its codes.
pub record NoneIsOne (a b c d : ℕ) : Type 0 where
  pub first : (a == 1) ≡ false
  pub second : (b == 1) ≡ false
  pub third : (c == 1) ≡ false
  pub fourth : (d == 1) ≡ false

none_is_one : (byte : ℕ) → byte_has_limbo byte ≡ false → NoneIsOne (byte % 4) (byte / 4 % 4) (byte / 16 % 4) (byte / 64 % 4)
none_is_one byte fails =
    let three = both_fail (byte % 4 == 1 || byte / 4 % 4 == 1 || byte / 16 % 4 == 1) (byte / 64 % 4 == 1) fails in
    let two = both_fail (byte % 4 == 1 || byte / 4 % 4 == 1) (byte / 16 % 4 == 1) three.0 in
    let one = both_fail (byte % 4 == 1) (byte / 4 % 4 == 1) two.0 in
    record { first = one.0; second = one.1; third = two.1; fourth = three.1 }

-- A byte without the forbidden state has it at none of its places.
code-not_one : (states : List State) (k r byte : ℕ) → byte ≡ states_byte states k → byte_has_limbo byte ≡ false → r < 4 → code_at states (4 * k + r) ≢ 1
code-not_one states k zero byte is fails below = let d = (digits_at states k byte is).first in let n = differ_from_test (byte % 4) 1 (none_is_one byte fails).first in omega arith
code-not_one states k (suc zero) byte is fails below = let d = (digits_at states k byte is).second in let n = differ_from_test (byte / 4 % 4) 1 (none_is_one byte fails).second in omega arith
code-not_one states k (suc (suc zero)) byte is fails below = let d = (digits_at states k byte is).third in let n = differ_from_test (byte / 16 % 4) 1 (none_is_one byte fails).third in omega arith
code-not_one states k (suc (suc (suc zero))) byte is fails below = let d = (digits_at states k byte is).fourth in let n = differ_from_test (byte / 64 % 4) 1 (none_is_one byte fails).fourth in omega arith
code-not_one states k (suc (suc (suc (suc r)))) byte is fails below = absurd (omega arith)

-- A place and its byte.
byte_at_place : (n k : ℕ) (bytes : List ℕ) → length bytes ≡ 16 + n → k < n → (k < length (drop 16 bytes)) × (get_or (drop 16 bytes) k 0 ≡ get_or bytes (16 + k) 0)
byte_at_place n k bytes long below = (omega (arith, length-drop 16 bytes), get_or-drop 16 bytes k 0)

-- A code of 1 is the forbidden state.
limbo_from_code : (states : List State) (i : ℕ) → i < length states → code_at states i ≡ 1 → slice_get states i ≡ Some Limbo
limbo_from_code states i below code =
    let state : slice_index_or states i Active ≡ Limbo = sym (state_of_code-state_code (slice_index_or states i Active)) ∙ ap state_of_code code in
    slice_get-get_or states i Active below ∙ ap Some state

-- A code of 0 is the first state.
active_from_code : (states : List State) (i : ℕ) → i < length states → code_at states i ≡ 0 → slice_get states i ≡ Some Active
active_from_code states i below code =
    let state : slice_index_or states i Active ≡ Active = sym (state_of_code-state_code (slice_index_or states i Active)) ∙ ap state_of_code code in
    slice_get-get_or states i Active below ∙ ap Some state

-- Bytes that pass the tests spell a number 0 without a state.
pub zero_within : (n : ℕ) (states : List State) (bytes : List ℕ) → 0 < n → length states ≡ 4 * n → ((k : ℕ) → k < n → get_or bytes (16 + k) 0 ≡ states_byte states k) → has_bad_zero bytes ≡ false → sequence_in bytes ≡ 0 → slice_get states 0 ≡ Some Active
zero_within n states bytes some count spelled passes first =
    let test = fails_under (sequence_in bytes == 0) (not (slice_index bytes 16 % 4 == 0)) passes (test_of_same (sequence_in bytes) 0 first) in
    let low : slice_index bytes 16 % 4 ≡ 0 = same_from_test (slice_index bytes 16 % 4) 0 (true_from_not (slice_index bytes 16 % 4 == 0) test) in
    let code : slice_index bytes 16 % 4 ≡ code_at states 0 = (digits_at states 0 (slice_index bytes 16) (spelled 0 some)).first in
    active_from_code states 0 (omega arith) (sym code ∙ low)

-- Bytes that pass the tests spell no forbidden state.
pub states_within : (n : ℕ) (states : List State) (bytes : List ℕ) → length bytes ≡ 16 + n → length states ≡ 4 * n → ((k : ℕ) → k < n → get_or bytes (16 + k) 0 ≡ states_byte states k) → has_bad_state bytes ≡ false → (i : ℕ) → slice_get states i ≢ Some Limbo
states_within n states bytes long count spelled passes i is =
    let below = slice_get_within states i Limbo is in
    let code : code_at states i ≡ 1 = ap state_code (get_or_from_slice_get states i Limbo Active is) in
    let place : 4 * (i / 4) + i % 4 ≡ i = omega arith in
    let digit : code_at states (4 * (i / 4) + i % 4) ≡ 1 = ap (code_at states) place ∙ code in
    let byte = byte_at_place n (i / 4) bytes long (omega arith) in
    let fails : byte_has_limbo (get_or bytes (16 + i / 4) 0) ≡ false = sym (ap byte_has_limbo byte.1) ∙ list_any-fails byte_has_limbo (drop 16 bytes) passes (i / 4) byte.0 in
    code-not_one states (i / 4) (i % 4) (get_or bytes (16 + i / 4) 0) (spelled (i / 4) (omega arith)) fails (omega arith) digit

-- What two tests in order say where no rule is broken.
tests_pass : (a b : Bool) → (if a then Some rule.Zero else if b then Some rule.State else None) ≡ None → (a ≡ false) × (b ≡ false)
tests_pass false false unbroken = (refl, refl)
tests_pass false true unbroken = cc
tests_pass true b unbroken = cc

-- What the tests say of bytes without a broken rule.
pub states_pass : (bytes : List ℕ) → broken_states bytes ≡ None → (has_bad_zero bytes ≡ false) × (has_bad_state bytes ≡ false)
states_pass bytes unbroken = tests_pass (has_bad_zero bytes) (has_bad_state bytes) unbroken

-- A code that is not the forbidden one.
code-other : (states : List State) (i : ℕ) → i < length states → slice_get states i ≢ Some Limbo → (code_at states i == 1) ≡ false
code-other states i below other = test_of_different (code_at states i) 1 (λ is. other (limbo_from_code states i below is))

-- A byte whose four codes are not the forbidden one passes.
limbo_passes : (states : List State) (k byte : ℕ) → byte ≡ states_byte states k → (code_at states (4 * k + 0) == 1) ≡ false → (code_at states (4 * k + 1) == 1) ≡ false → (code_at states (4 * k + 2) == 1) ≡ false → (code_at states (4 * k + 3) == 1) ≡ false → byte_has_limbo byte ≡ false
limbo_passes states k byte is a b c d =
    let digits = digits_at states k byte is in
    let one : (byte % 4 == 1) ≡ false = ap (λ (n : ℕ). n == 1) digits.first ∙ a in
    let two : (byte / 4 % 4 == 1) ≡ false = ap (λ (n : ℕ). n == 1) digits.second ∙ b in
    let three : (byte / 16 % 4 == 1) ≡ false = ap (λ (n : ℕ). n == 1) digits.third ∙ c in
    let four : (byte / 64 % 4 == 1) ≡ false = ap (λ (n : ℕ). n == 1) digits.fourth ∙ d in
    neither (byte % 4 == 1 || byte / 4 % 4 == 1 || byte / 16 % 4 == 1) (byte / 64 % 4 == 1)
    (neither (byte % 4 == 1 || byte / 4 % 4 == 1) (byte / 16 % 4 == 1) (neither (byte % 4 == 1) (byte / 4 % 4 == 1) one two) three) four

-- A spelled transaction inventory page breaks no rule of its states.
pub SpellsTip-unbroken : (size : ℕ) (tip : Tip) (bytes : List ℕ) → 16 < size → SpellsTip size tip bytes → broken_states bytes ≡ None
SpellsTip-unbroken size tip bytes large x =
    let named : sequence_in bytes ≡ tip.sequence = ap (number_in 256) x.head.sequence_is ∙ number_in-little_4 tip.sequence x.fits.sequence in
    let count : length tip.states ≡ 4 * (size - 16) = x.fits.count in
    let long : length bytes ≡ 16 + (size - 16) = x.size_is ∙ omega arith in
    let low : slice_index bytes 16 % 4 ≡ code_at tip.states 0 = (digits_at tip.states 0 (slice_index bytes 16) (x.states 0 (omega arith))).first in
    let zero_passes : has_bad_zero bytes ≡ false = and_fails (sequence_in bytes == 0) (not (slice_index bytes 16 % 4 == 0)) (λ first.
    let none : tip.sequence ≡ 0 = sym named ∙ same_from_test (sequence_in bytes) 0 first in
    let code : code_at tip.states 0 ≡ 0 = ap state_code (get_or_from_slice_get tip.states 0 Active Active (x.fits.zero none)) in
    not_of_true (slice_index bytes 16 % 4 == 0) (test_of_same (slice_index bytes 16 % 4) 0 (low ∙ code))) in
    let state_passes : has_bad_state bytes ≡ false = list_any-none byte_has_limbo (drop 16 bytes) (λ k below.
    let inside : k < size - 16 = omega (arith, length-drop 16 bytes) in
    let byte : get_or (drop 16 bytes) k 0 ≡ states_byte tip.states k = get_or-drop 16 bytes k 0 ∙ x.states k inside in
    limbo_passes tip.states k (get_or (drop 16 bytes) k 0) byte
    (code-other tip.states (4 * k + 0) (omega arith) (x.fits.state (4 * k + 0)))
    (code-other tip.states (4 * k + 1) (omega arith) (x.fits.state (4 * k + 1)))
    (code-other tip.states (4 * k + 2) (omega arith) (x.fits.state (4 * k + 2)))
    (code-other tip.states (4 * k + 3) (omega arith) (x.fits.state (4 * k + 3)))) in
    rw (zero_passes, state_passes) refl

-- The page that was read from bytes without a broken rule is the one that they spell.
pub SpellsTip-read : (size page sequence : ℕ) (states : List State) (bytes : List ℕ) → 16 < size → length bytes ≡ size → page < 2 ^ 32 → sequence < 2 ^ 32 → sequence ≡ sequence_in bytes → HasHead 3 0 page sequence bytes → length states ≡ 4 * (length bytes - 16) → ((k : ℕ) → k < length bytes - 16 → slice_index bytes (16 + k) ≡ states_byte states k) → broken_states bytes ≡ None → SpellsTip size (record { page = page; sequence = sequence; states = states }) bytes
SpellsTip-read size page sequence states bytes large long page_fits sequence_fits named head count spelled unbroken =
    let passes = states_pass bytes unbroken in
    let rest : length bytes ≡ 16 + (length bytes - 16) = omega arith in
    record {
      fits = record {
        page = page_fits;
        sequence = sequence_fits;
        count = count ∙ ap (λ (n : ℕ). 4 * (n - 16)) long;
        zero = λ first. zero_within (length bytes - 16) states bytes (omega arith) count spelled passes.0 (sym named ∙ first);
        state = states_within (length bytes - 16) states bytes rest count spelled passes.1;
      };
      size_is = long;
      head = head;
      states = λ k below. spelled k (omega arith);
    }

-- A spelled transaction inventory page breaks no rule.
pub tip-unbroken : (size : ℕ) (tip : Tip) (bytes : List ℕ) → 16 < size → SpellsTip size tip bytes → broken_tip tip.page bytes ≡ None
tip-unbroken size tip bytes large x =
    let plain : IsPlainHead 3 0 tip.sequence = record { no_relation = λ low. refl; no_sequence = λ first. absurd (omega arith) } in
    let head = HasHead-unbroken 3 0 tip.page tip.sequence bytes (omega arith) x.fits.page x.fits.sequence plain x.head in
    let states = SpellsTip-unbroken size tip bytes large x in
    rw (head, states) refl
