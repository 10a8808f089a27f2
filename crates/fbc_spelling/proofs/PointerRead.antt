-- The pointer page that bytes spell where they break no rule.
use Rattle.std.proofs.Common.{◌≡◌, ◌<◌, ◌≤◌, ◌-◌, ◌*◌, ◌++◌, ℕ, zero, suc, Bool, true, false, List, [], ◌∷◌, length, drop, None, Some, refl, sym, ap, ◌∙◌, if◌then◌else◌, nat_le, arith}
use Rattle.std.specs.List.{All, flat_map}
use Rattle.std.proofs.lemmas.Bool.Decides.{nat_tests}
use Rattle.std.proofs.lemmas.List.{length-drop}
use Rattle.fbc_kinds.specs.declared.pages.Pointer.{Pointer}
use Rattle.fbc_kinds.specs.declared.rules.Rule.TheVariants as rule
use Rattle.fbc_kinds.specs.Head.{broken_head, little_bytes, number_at, relation_in, sequence_in}
use Rattle.fbc_kinds.specs.Limits.{number_limit, relation_limit, slots}
use Rattle.fbc_kinds.specs.PointerSpelling.{SpellsPointer, broken_pointer, broken_relation, broken_start}
use Rattle.fbc_kinds.proofs.HeaderRules.{both_unbroken}
use Rattle.fbc_kinds.proofs.Numbers.{little_4-number_in, number_at-small_4}
use Rattle.fbc_cells.proofs.NumberBytes.{AreNumbers, numbers_of_bytes}
use Rattle.fbc_spelling.proofs.ByteLists.{AreBytes}
use Rattle.fbc_spelling.proofs.ByteLists.{bytes_from}
use Rattle.fbc_spelling.proofs.HeadRead.{IsHead, head_read}

-- The numbers of four bytes each that stand in the bytes.
abbrev pub slots_in : List ℕ → List ℕ
slots_in (a ∷ (b ∷ (c ∷ (d ∷ rest)))) = number_at 0 4 (a ∷ (b ∷ (c ∷ (d ∷ [])))) ∷ slots_in rest
slots_in _ = []

-- The pointer page that the bytes spell.
abbrev pub pointer_in : ℕ → List ℕ → Pointer
pointer_in page bytes = record { page = page; relation = relation_in bytes; sequence = sequence_in bytes; slots = slots_in (drop 16 bytes) }

-- The first four of many bytes are bytes.
front_small : (a b c d : ℕ) (rest : List ℕ) → AreBytes (a ∷ (b ∷ (c ∷ (d ∷ rest)))) → AreBytes (a ∷ (b ∷ (c ∷ (d ∷ []))))
front_small a b c d rest small zero = small 0
front_small a b c d rest small (suc zero) = small 1
front_small a b c d rest small (suc (suc zero)) = small 2
front_small a b c d rest small (suc (suc (suc zero))) = small 3
front_small a b c d rest small (suc (suc (suc (suc i)))) = omega arith

-- These are as many as there are, and the bytes are theirs.
record AreSlots (n : ℕ) (bytes numbers : List ℕ) : Type 0 where
  pub count : length numbers ≡ n
  pub fit : All (λ number. number < number_limit) numbers
  pub are : bytes ≡ flat_map (little_bytes 4) numbers

fit_more : (first : ℕ) (numbers : List ℕ) → first < number_limit → All (λ number. number < number_limit) numbers → All (λ number. number < number_limit) (first ∷ numbers)
fit_more first numbers here fit zero d below = here
fit_more first numbers here fit (suc k) d below = fit k d (omega arith)

slots_read : (count : ℕ) (bytes : List ℕ) → length bytes ≡ 4 * count → AreBytes bytes → AreSlots count bytes (slots_in bytes)
slots_read zero [] long small = record { count = refl; fit = λ k d below. absurd (omega arith); are = refl }
slots_read (suc count) (a ∷ (b ∷ (c ∷ (d ∷ rest)))) long small =
    let four : List ℕ = a ∷ (b ∷ (c ∷ (d ∷ []))) in
    let few = front_small a b c d rest small in
    let later = slots_read count rest (omega arith) (λ i. small (suc (suc (suc (suc i))))) in
    record {
      count = ap suc later.count;
      fit = fit_more (number_at 0 4 four) (slots_in rest) (number_at-small_4 0 four few (omega arith)) later.fit;
      are =
          ap (λ tail. a ∷ (b ∷ (c ∷ (d ∷ tail)))) later.are
          ∙ ap (λ front. front ++ flat_map (little_bytes 4) (slots_in rest)) (sym (little_4-number_in four refl few));
    }
slots_read zero (a ∷ rest) long small = absurd (omega arith)
slots_read (suc count) [] long small = absurd (omega arith)
slots_read (suc count) (a ∷ []) long small = absurd (omega arith)
slots_read (suc count) (a ∷ (b ∷ [])) long small = absurd (omega arith)
slots_read (suc count) (a ∷ (b ∷ (c ∷ []))) long small = absurd (omega arith)

-- A relation that breaks no rule is one of eight.
relation_fits : (relation : ℕ) → (if nat_le 8 relation then Some rule.Relation else None) ≡ None → relation < 8
relation_fits relation unbroken = go (nat_le 8 relation) refl unbroken
  where
    go : (b : Bool) → nat_le 8 relation ≡ b → (if b then Some rule.Relation else None) ≡ None → relation < 8
    go true is none = cc
    go false is none = grind (arith, nat_tests)

-- How a page of a relation begins.
pub record IsStart (kind page : ℕ) (bytes : List ℕ) : Type 0 where
  pub head : IsHead kind page bytes
  pub relation_fits : relation_in bytes < relation_limit

pub start_read : (kind page : ℕ) (bytes : List ℕ) → AreNumbers bytes → 16 ≤ length bytes → broken_start kind page bytes ≡ None → IsStart kind page bytes
start_read kind page bytes numbers long unbroken =
    let both = both_unbroken (broken_head kind page bytes) (broken_relation bytes) unbroken in
    record { head = head_read kind page bytes numbers long both.0; relation_fits = relation_fits (relation_in bytes) both.1 }

module _ (size page : ℕ) (bytes : List ℕ) (large : 16 ≤ size) (small : AreBytes bytes) (long : length bytes ≡ size) (whole : 4 * slots size ≡ size - 16) (unbroken : broken_pointer page bytes ≡ None) where
  pub pointer_spelled : SpellsPointer size (pointer_in page bytes) bytes
  pointer_spelled =
      let start = start_read 4 page bytes (numbers_of_bytes bytes small (omega arith)) (omega arith) unbroken in
      let body : length (drop 16 bytes) ≡ 4 * slots size = omega (arith, length-drop 16 bytes, whole) in
      let read = slots_read (slots size) (drop 16 bytes) body (bytes_from 16 bytes small) in
      record {
        fits = record {
          page_fits = start.head.page_fits;
          sequence_fits = start.head.sequence_fits;
          relation_fits = start.relation_fits;
          count = read.count;
          slots_fit = read.fit;
        };
        size_is = long;
        head = start.head.head;
        slots_are = read.are;
      }
