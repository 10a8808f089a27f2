use Rattle.std.proofs.Common.{◌≡◌, ℕ, ◌+◌, ◌<◌, Bool, true, false, Some, None, not, ◌==◌, ltb, cond, ap, ◌∙◌, ◌≤◌, List, [], ◌∷◌, length, take, drop, refl, arith}
use Rattle.std.specs.List.{onto_first, position, position_or_len}
use Rattle.std.proofs.lemmas.Bool.{ltb-true, ltb-false}
use Rattle.std.proofs.lemmas.List.{take_all, drop_all}
use Rattle.std.proofs.lemmas.Grind.{common_steps}
use Rattle.fbc_script.specs.Pieces.{pieces_of}

-- Where the first piece ends.
abbrev end_of : ℕ → List ℕ → ℕ
end_of separator bytes = position_or_len (λ byte. byte == separator) bytes

-- The first piece, and then the pieces behind its separator.
abbrev Splits : ℕ → List ℕ → ℕ → List (List ℕ) → Type 0
Splits separator bytes end pieces = pieces ≡ take end bytes ∷ pieces_of separator (drop (end + 1) bytes)

Splits-onto : (separator byte : ℕ) (bytes : List ℕ) (end : ℕ) (pieces : List (List ℕ)) → Splits separator bytes end pieces → Splits separator (byte ∷ bytes) (1 + end) (onto_first byte pieces)
Splits-onto separator byte bytes end pieces splits = rw splits (grind (arith, common_steps))

Splits-byte : (is : Bool) (separator byte : ℕ) (bytes : List ℕ) → (0 < length bytes → Splits separator bytes (end_of separator bytes) (pieces_of separator bytes)) → Splits separator (byte ∷ bytes) (cond (not is) (1 + end_of separator bytes) 0) (cond is ([] ∷ pieces_of separator bytes) (onto_first byte (pieces_of separator bytes)))
Splits-byte true separator byte bytes splits = refl
Splits-byte false separator byte [] splits = refl
Splits-byte false separator byte (next ∷ bytes) splits = Splits-onto separator byte (next ∷ bytes) _ _ (splits (omega arith))

pub pieces_of-first : (separator : ℕ) (bytes : List ℕ) → 0 < length bytes → Splits separator bytes (end_of separator bytes) (pieces_of separator bytes)
pieces_of-first separator [] some = absurd (omega arith)
pieces_of-first separator (byte ∷ bytes) some = Splits-byte (byte == separator) separator byte bytes (pieces_of-first separator bytes)

-- What a guarded value tells.
guarded_some : (is : Bool) (n end : ℕ) → cond is (Some n) None ≡ Some end → (is ≡ true) × (n ≡ end)
guarded_some true n end found = (refl, cc)
guarded_some false n end found = cc

guarded_none : (is : Bool) (n : ℕ) → cond is (Some n) None ≡ None → is ≡ false
guarded_none true n whole = cc
guarded_none false n whole = refl

-- Where a separator was found, and where none was.
pub pieces_of-found : (separator : ℕ) (bytes : List ℕ) (end : ℕ) → position (λ byte. byte == separator) bytes ≡ Some end → pieces_of separator bytes ≡ take end bytes ∷ pieces_of separator (drop (end + 1) bytes)
pieces_of-found separator bytes end found =
    let at = guarded_some (ltb (end_of separator bytes) (length bytes)) (end_of separator bytes) end found in
    let some : 0 < length bytes = omega (arith, ltb-true _ _ at.0) in
    rw (← at.1) (pieces_of-first separator bytes some)

pub pieces_of-whole : (separator : ℕ) (bytes : List ℕ) → 0 < length bytes → position (λ byte. byte == separator) bytes ≡ None → pieces_of separator bytes ≡ bytes ∷ []
pieces_of-whole separator bytes some whole =
    let past : length bytes ≤ end_of separator bytes = ltb-false _ _ (guarded_none (ltb (end_of separator bytes) (length bytes)) (end_of separator bytes) whole) in
    let further : length bytes ≤ end_of separator bytes + 1 = omega arith in
    pieces_of-first separator bytes some ∙ ap (λ piece. piece ∷ pieces_of separator (drop (end_of separator bytes + 1) bytes)) (take_all _ bytes past) ∙ ap (λ rest. bytes ∷ pieces_of separator rest) (drop_all _ bytes further)
