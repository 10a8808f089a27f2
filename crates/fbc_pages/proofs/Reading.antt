use Rattle.std.proofs.Common.{◌≡◌, ◌+◌, ◌*◌, ◌/◌, ◌%◌, ◌<◌, ◌≤◌, ◌≢◌, ◌==◌, ℕ, zero, suc, Bool, false, refl, List, [], ◌∷◌, Some, ◌++◌, length, get_or, set, sym, ap, ◌∙◌, inl, inr, arith}
use Rattle.std.specs.Prelude.{slice_index_or, slice_get}
use Rattle.std.proofs.lemmas.Bool.{cases_lt}
use Rattle.std.proofs.lemmas.List.{get_or_append_left, get_or-append-add, get_or_push, length_push, length-set, get_or-set_same, get_or-set_other}
use Rattle.std.proofs.lemmas.Option.{slice_get-get_or, slice_get_within, get_or_from_slice_get}
use Rattle.fbc_kinds.specs.declared.pages.State.{State}
use Rattle.fbc_kinds.specs.declared.pages.State.TheVariants.{Active}
use Rattle.fbc_kinds.specs.TipSpelling.{state_code, state_of_code, code_at, states_byte}
use Rattle.fbc_kinds.proofs.TipLaws.{state_code-state_of_code}
use Rattle.fbc_kinds.specs.InventorySpelling.{mark_bit, bit_at, marks_byte}
use Rattle.fbc_pages.specs.Parts.{states_of, marks_of}

-- A code stays where states are added at the end.
code_at-front : (old new : List State) (i : ℕ) → i < length old → code_at (old ++ new) i ≡ code_at old i
code_at-front old new i below = ap state_code (get_or_append_left old new Active i below)

-- The codes of the states that were added.
code_at-back : (old new : List State) (k r : ℕ) → length old ≡ 4 * k → code_at (old ++ new) (4 * k + r) ≡ code_at new r
code_at-back old new k r count = ap (λ (n : ℕ). code_at (old ++ new) (n + r)) (sym count) ∙ ap state_code (get_or-append-add old new r Active)

-- A byte of states stays where states are added at the end.
states_byte-front : (old new : List State) (k : ℕ) → 4 * k + 4 ≤ length old → states_byte (old ++ new) k ≡ states_byte old k
states_byte-front old new k inside =
    let a = code_at-front old new (4 * k + 0) (omega arith) in
    let b = code_at-front old new (4 * k + 1) (omega arith) in
    let c = code_at-front old new (4 * k + 2) (omega arith) in
    let d = code_at-front old new (4 * k + 3) (omega arith) in
    cc

-- The byte whose states were added.
states_byte-back : (old : List State) (k byte : ℕ) → length old ≡ 4 * k → byte < 256 → states_byte (old ++ states_of byte) k ≡ byte
states_byte-back old k byte count small =
    let a : code_at (old ++ states_of byte) (4 * k + 0) ≡ byte % 4 = code_at-back old (states_of byte) k 0 count ∙ state_code-state_of_code (byte % 4) (omega arith) in
    let b : code_at (old ++ states_of byte) (4 * k + 1) ≡ byte / 4 % 4 = code_at-back old (states_of byte) k 1 count ∙ state_code-state_of_code (byte / 4 % 4) (omega arith) in
    let c : code_at (old ++ states_of byte) (4 * k + 2) ≡ byte / 16 % 4 = code_at-back old (states_of byte) k 2 count ∙ state_code-state_of_code (byte / 16 % 4) (omega arith) in
    let d : code_at (old ++ states_of byte) (4 * k + 3) ≡ byte / 64 % 4 = code_at-back old (states_of byte) k 3 count ∙ state_code-state_of_code (byte / 64 % 4) (omega arith) in
    let sum : byte % 4 + 4 * (byte / 4 % 4 + 4 * (byte / 16 % 4 + 4 * (byte / 64 % 4 + 0))) ≡ byte = omega arith in
    let split : states_byte (old ++ states_of byte) k ≡ byte % 4 + 4 * (byte / 4 % 4 + 4 * (byte / 16 % 4 + 4 * (byte / 64 % 4 + 0))) = cc in
    split ∙ sum

-- One more byte of states is read.
pub states_more : (bytes : List ℕ) (old : List State) (k byte : ℕ) → length old ≡ 4 * k → byte ≡ get_or bytes (16 + k) 0 → byte < 256 → ((j : ℕ) → j < k → get_or bytes (16 + j) 0 ≡ states_byte old j) → (j : ℕ) → j < k + 1 → get_or bytes (16 + j) 0 ≡ states_byte (old ++ states_of byte) j
states_more bytes old k byte count is small before j below =
    elim (cases_lt j k) [
      | inl earlier ↦ before j earlier ∙ sym (states_byte-front old (states_of byte) j (omega arith))
      | inr late ↦ let same : j ≡ k = omega arith in rw same (sym is ∙ sym (states_byte-back old k byte count small))
    ]

-- A bit stays where marks are added at the end.
bit_at-front : (old new : List Bool) (i : ℕ) → i < length old → bit_at (old ++ new) i ≡ bit_at old i
bit_at-front old new i below = ap mark_bit (get_or_append_left old new false i below)

-- The bits of the marks that were added.
bit_at-back : (old new : List Bool) (k r : ℕ) → length old ≡ 8 * k → bit_at (old ++ new) (8 * k + r) ≡ bit_at new r
bit_at-back old new k r count = ap (λ (n : ℕ). bit_at (old ++ new) (n + r)) (sym count) ∙ ap mark_bit (get_or-append-add old new r false)

-- A byte of marks stays where marks are added at the end.
marks_byte-front : (old new : List Bool) (k : ℕ) → 8 * k + 8 ≤ length old → marks_byte (old ++ new) k ≡ marks_byte old k
marks_byte-front old new k inside =
    let b0 = bit_at-front old new (8 * k + 0) (omega arith) in
    let b1 = bit_at-front old new (8 * k + 1) (omega arith) in
    let b2 = bit_at-front old new (8 * k + 2) (omega arith) in
    let b3 = bit_at-front old new (8 * k + 3) (omega arith) in
    let b4 = bit_at-front old new (8 * k + 4) (omega arith) in
    let b5 = bit_at-front old new (8 * k + 5) (omega arith) in
    let b6 = bit_at-front old new (8 * k + 6) (omega arith) in
    let b7 = bit_at-front old new (8 * k + 7) (omega arith) in
    cc

-- The bit of the mark of a digit is that digit.
bit_of_digit : (digit : ℕ) → digit < 2 → mark_bit (digit == 1) ≡ digit
bit_of_digit zero small = refl
bit_of_digit (suc zero) small = refl
bit_of_digit (suc (suc n)) small = absurd (omega arith)

-- The byte whose marks were added.
marks_byte-back : (old : List Bool) (k byte : ℕ) → length old ≡ 8 * k → byte < 256 → marks_byte (old ++ marks_of byte) k ≡ byte
marks_byte-back old k byte count small =
    let b0 : bit_at (old ++ marks_of byte) (8 * k + 0) ≡ byte % 2 = bit_at-back old (marks_of byte) k 0 count ∙ bit_of_digit (byte % 2) (omega arith) in
    let b1 : bit_at (old ++ marks_of byte) (8 * k + 1) ≡ byte / 2 % 2 = bit_at-back old (marks_of byte) k 1 count ∙ bit_of_digit (byte / 2 % 2) (omega arith) in
    let b2 : bit_at (old ++ marks_of byte) (8 * k + 2) ≡ byte / 4 % 2 = bit_at-back old (marks_of byte) k 2 count ∙ bit_of_digit (byte / 4 % 2) (omega arith) in
    let b3 : bit_at (old ++ marks_of byte) (8 * k + 3) ≡ byte / 8 % 2 = bit_at-back old (marks_of byte) k 3 count ∙ bit_of_digit (byte / 8 % 2) (omega arith) in
    let b4 : bit_at (old ++ marks_of byte) (8 * k + 4) ≡ byte / 16 % 2 = bit_at-back old (marks_of byte) k 4 count ∙ bit_of_digit (byte / 16 % 2) (omega arith) in
    let b5 : bit_at (old ++ marks_of byte) (8 * k + 5) ≡ byte / 16 / 2 % 2 = bit_at-back old (marks_of byte) k 5 count ∙ bit_of_digit (byte / 16 / 2 % 2) (omega arith) in
    let b6 : bit_at (old ++ marks_of byte) (8 * k + 6) ≡ byte / 16 / 4 % 2 = bit_at-back old (marks_of byte) k 6 count ∙ bit_of_digit (byte / 16 / 4 % 2) (omega arith) in
    let b7 : bit_at (old ++ marks_of byte) (8 * k + 7) ≡ byte / 16 / 8 % 2 = bit_at-back old (marks_of byte) k 7 count ∙ bit_of_digit (byte / 16 / 8 % 2) (omega arith) in
    let sum : byte % 2 + 2 * (byte / 2 % 2 + 2 * (byte / 4 % 2 + 2 * (byte / 8 % 2 + 2 * (byte / 16 % 2 + 2 * (byte / 16 / 2 % 2 + 2 * (byte / 16 / 4 % 2 + 2 * (byte / 16 / 8 % 2 + 0))))))) ≡ byte = omega arith in
    let split : marks_byte (old ++ marks_of byte) k ≡ byte % 2 + 2 * (byte / 2 % 2 + 2 * (byte / 4 % 2 + 2 * (byte / 8 % 2 + 2 * (byte / 16 % 2 + 2 * (byte / 16 / 2 % 2 + 2 * (byte / 16 / 4 % 2 + 2 * (byte / 16 / 8 % 2 + 0))))))) = cc in
    split ∙ sum

-- One more byte of marks is read.
pub marks_more : (bytes : List ℕ) (old : List Bool) (k byte : ℕ) → length old ≡ 8 * k → byte ≡ get_or bytes (16 + k) 0 → byte < 256 → ((j : ℕ) → j < k → get_or bytes (16 + j) 0 ≡ marks_byte old j) → (j : ℕ) → j < k + 1 → get_or bytes (16 + j) 0 ≡ marks_byte (old ++ marks_of byte) j
marks_more bytes old k byte count is small before j below =
    elim (cases_lt j k) [
      | inl earlier ↦ before j earlier ∙ sym (marks_byte-front old (marks_of byte) j (omega arith))
      | inr late ↦ let same : j ≡ k = omega arith in rw same (sym is ∙ sym (marks_byte-back old k byte count small))
    ]

-- One more number is read.
pub numbers_more : (f : ℕ → ℕ) (old : List ℕ) (number i : ℕ) → length old ≡ i → number ≡ f i → ((j : ℕ) → j < i → get_or old j 0 ≡ f j) → (j : ℕ) → j < i + 1 → get_or (old ++ number ∷ []) j 0 ≡ f j
numbers_more f old number i count is before j below =
    elim (cases_lt j i) [
      | inl earlier ↦ get_or_append_left old (number ∷ []) 0 j (omega arith) ∙ before j earlier
      | inr late ↦ let same : j ≡ i = omega arith in rw same (get_or_push old number 0 i count ∙ is)
    ]

-- What holds of each item, and of one more after them, holds of each.
pub items_more : {X : Type 0} (P : ℕ → X → Type 0) (old : List X) (item : X) → P (length old) item → ((j : ℕ) (x : X) → slice_get old j ≡ Some x → P j x) → (j : ℕ) (x : X) → slice_get (old ++ item ∷ []) j ≡ Some x → P j x
items_more P old item here before j x at =
    elim (cases_lt j (length old)) [
      | inl earlier ↦ before j x (slice_get-get_or old j x earlier ∙ (ap Some (sym (get_or_append_left old (item ∷ []) x j earlier)) ∙ (sym (slice_get-get_or (old ++ item ∷ []) j x (slice_get_within (old ++ item ∷ []) j x at)) ∙ at)))
      | inr late ↦
          let last : j ≡ length old = omega (arith, slice_get_within (old ++ item ∷ []) j x at, length_push old item) in
          let same : item ≡ x = sym (get_or_push old item x (length old) refl) ∙ (ap (λ (n : ℕ). get_or (old ++ item ∷ []) n x) (sym last) ∙ get_or_from_slice_get (old ++ item ∷ []) j x x at) in
          rw (last, ← same) here
    ]

-- One more place of a list is written.
pub places_more : {X : Type 0} (f : ℕ → X) (old : List X) (item : X) (i : ℕ) → i < length old → item ≡ f i → ((j : ℕ) → j < i → slice_get old j ≡ Some (f j)) → (j : ℕ) → j < i + 1 → slice_get (set old i item) j ≡ Some (f j)
places_more f old item i inside is before j below =
    elim (cases_lt j i) [
      | inl earlier ↦
          let other : j ≢ i = omega arith in
          let within : j < length (set old i item) = omega (arith, length-set old i item) in
          slice_get-get_or (set old i item) j (f j) within
          ∙ (ap Some (get_or-set_other old i j item (f j) other ∙ get_or_from_slice_get old j (f j) (f j) (before j earlier)))
      | inr late ↦
          let same : j ≡ i = omega arith in
          let within : i < length (set old i item) = omega (arith, length-set old i item) in
          rw same (slice_get-get_or (set old i item) i item within ∙ (ap Some (get_or-set_same old i item item inside ∙ is)))
    ]
