use Rattle.std.proofs.Common.{◌≡◌, ◌<◌, ◌≤◌, ◌+◌, ◌*◌, ◌++◌, [], ◌∷◌, ℕ, zero, suc, List, length, drop, get_or, refl, sym, ap, ◌∙◌, arith}
use Rattle.std.proofs.lemmas.List.{drop-drop}
use Rattle.std.specs.List.{flat_map}
use Rattle.std.proofs.Math.Nat.{mul-suc}
use Rattle.byteorder.specs.Endian.{little_number}
use Rattle.fbc_kinds.specs.Head.{little_bytes}
use Rattle.fbc_kinds.proofs.Numbers.{little_4-number_in}

-- The first four of many bytes are bytes.
front_small : (a b c d : ℕ) (bytes : List ℕ) → ((i : ℕ) → get_or (a ∷ (b ∷ (c ∷ (d ∷ bytes)))) i 0 < 256) → (i : ℕ) → get_or (a ∷ (b ∷ (c ∷ (d ∷ [])))) i 0 < 256
front_small a b c d bytes small zero = small 0
front_small a b c d bytes small (suc zero) = small 1
front_small a b c d bytes small (suc (suc zero)) = small 2
front_small a b c d bytes small (suc (suc (suc zero))) = small 3
front_small a b c d bytes small (suc (suc (suc (suc i)))) = omega arith

-- Bytes are those of the numbers that are read from them, four bytes each.
pub flat_map-read : (numbers bytes : List ℕ) → length bytes ≡ 4 * length numbers → ((i : ℕ) → get_or bytes i 0 < 256)
    → ((k : ℕ) → k < length numbers → get_or numbers k 0 ≡ little_number 4 (drop (4 * k) bytes))
    → bytes ≡ flat_map (little_bytes 4) numbers
flat_map-read [] [] long small each = refl
flat_map-read [] (a ∷ bytes) long small each = absurd (omega arith)
flat_map-read (x ∷ numbers) [] long small each = absurd (omega arith)
flat_map-read (x ∷ numbers) (a ∷ []) long small each = absurd (omega arith)
flat_map-read (x ∷ numbers) (a ∷ (b ∷ [])) long small each = absurd (omega arith)
flat_map-read (x ∷ numbers) (a ∷ (b ∷ (c ∷ []))) long small each = absurd (omega arith)
flat_map-read (x ∷ numbers) (a ∷ (b ∷ (c ∷ (d ∷ bytes)))) long small each =
    let first : little_bytes 4 x ≡ a ∷ (b ∷ (c ∷ (d ∷ []))) =
    ap (little_bytes 4) (each 0 (omega arith)) ∙ little_4-number_in (a ∷ (b ∷ (c ∷ (d ∷ [])))) refl (λ i. front_small a b c d bytes small i) in
    let others : (k : ℕ) → k < length numbers → get_or numbers k 0 ≡ little_number 4 (drop (4 * k) bytes) =
    λ k inside. let step : 4 * suc k ≡ suc (suc (suc (suc (4 * k)))) = omega arith in
    each (suc k) (omega arith) ∙ ap (λ n. little_number 4 (drop n (a ∷ (b ∷ (c ∷ (d ∷ bytes)))))) step in
    let rest : bytes ≡ flat_map (little_bytes 4) numbers =
    flat_map-read numbers bytes (omega arith) (λ i. small (suc (suc (suc (suc i))))) others in
    ap (λ tail. a ∷ (b ∷ (c ∷ (d ∷ tail)))) rest ∙ ap (λ front. front ++ flat_map (little_bytes 4) numbers) (sym first)
