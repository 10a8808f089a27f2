-- The words of a line, joined by single spaces, give the line back.
use Rattle.std.proofs.Common.{◌≡◌, ℕ, Bool, true, false, not, ◌&&◌, ◌==◌, if◌then◌else◌, List, [], ◌∷◌, refl, sym, ap, ◌∙◌}
use Rattle.std.specs.List.{onto_first}
use Rattle.std.proofs.lemmas.Bool.{eqb-true}
use Rattle.fbc_script.specs.Pieces.{words_of, has_single_spaces}
use Rattle.fbc_script.specs.Spelling.{joined}

-- A byte before the first word.
joined-onto : (byte next : ℕ) (words : List (List ℕ)) → joined (onto_first byte (onto_first next words)) ≡ byte ∷ joined (onto_first next words)
joined-onto byte next [] = refl
joined-onto byte next (word ∷ words) = refl

-- What follows a space is another word.
joined-space : (byte next : ℕ) (words : List (List ℕ)) → joined ((byte ∷ []) ∷ onto_first next words) ≡ byte ∷ 32 ∷ joined (onto_first next words)
joined-space byte next [] = refl
joined-space byte next (word ∷ words) = refl

-- Bytes behind another one, in its word or behind a space.
abbrev Joins : List ℕ → Type 0
Joins bytes = has_single_spaces false bytes ≡ true → (byte : ℕ) → joined (onto_first byte (words_of bytes)) ≡ byte ∷ bytes

abbrev JoinsDue : List ℕ → Type 0
JoinsDue bytes = has_single_spaces true bytes ≡ true → (byte : ℕ) → joined ((byte ∷ []) ∷ words_of bytes) ≡ byte ∷ 32 ∷ bytes

joins-by : (is : Bool) (next : ℕ) (bytes : List ℕ) → (next == 32) ≡ is → Joins bytes → JoinsDue bytes → (if is then not false && has_single_spaces true bytes else has_single_spaces false bytes) ≡ true → (byte : ℕ) → joined (onto_first byte (if is then [] ∷ words_of bytes else onto_first next (words_of bytes))) ≡ byte ∷ next ∷ bytes
joins-by true next bytes is more due spaced byte = due spaced byte ∙ ap (λ space. byte ∷ space ∷ bytes) (sym (eqb-true next 32 is))
joins-by false next bytes is more due spaced byte = joined-onto byte next (words_of bytes) ∙ ap (λ rest. byte ∷ rest) (more spaced next)

due-by : (is : Bool) (next : ℕ) (bytes : List ℕ) → Joins bytes → (if is then not true && has_single_spaces true bytes else has_single_spaces false bytes) ≡ true → (byte : ℕ) → joined ((byte ∷ []) ∷ (if is then [] ∷ words_of bytes else onto_first next (words_of bytes))) ≡ byte ∷ 32 ∷ next ∷ bytes
due-by true next bytes more spaced byte = cc
due-by false next bytes more spaced byte = joined-space byte next (words_of bytes) ∙ ap (λ rest. byte ∷ 32 ∷ rest) (more spaced next)

joins : (bytes : List ℕ) → Joins bytes × JoinsDue bytes
joins [] = (λ spaced byte. refl, λ spaced byte. cc)
joins (next ∷ bytes) =
    let more = joins bytes in
    (joins-by (next == 32) next bytes refl more.0 more.1, due-by (next == 32) next bytes more.0)

first-by : (is : Bool) (next : ℕ) (bytes : List ℕ) → (if is then not true && has_single_spaces true bytes else has_single_spaces false bytes) ≡ true → joined (if is then [] ∷ words_of bytes else onto_first next (words_of bytes)) ≡ next ∷ bytes
first-by true next bytes spaced = cc
first-by false next bytes spaced = (joins bytes).0 spaced next

pub joined-words_of : (line : List ℕ) → has_single_spaces true line ≡ true → joined (words_of line) ≡ line
joined-words_of [] spaced = cc
joined-words_of (next ∷ bytes) spaced = first-by (next == 32) next bytes spaced
