use Rattle.std.proofs.Common.{◌≡◌, ◌+◌, ◌-◌, ◌*◌, ◌/◌, ◌%◌, ◌<◌, ℕ, zero, suc, Bool, true, false, List, length, refl, sym, ap, ◌∙◌, arith}
use Rattle.std.specs.Prelude.{slice_index_or}
use Rattle.std.proofs.lemmas.List.{same_lists, get_or_default}
use Rattle.fbc_kinds.specs.declared.pages.Inventory.{Inventory}
use Rattle.fbc_kinds.specs.InventorySpelling.{SpellsInventory, mark_bit, bit_at, marks_byte}
use Rattle.fbc_kinds.proofs.Numbers.{same_number_4}
use Rattle.fbc_kinds.proofs.Pieces.{same_front-head, same_pages}

-- A mark is one bit.
pub mark_bit-small : (mark : Bool) → mark_bit mark < 2
mark_bit-small true = omega arith
mark_bit-small false = omega arith

-- The mark of a bit.
abbrev pub mark_of : ℕ → Bool
mark_of zero = false
mark_of (suc _) = true

-- The two marks have two bits.
mark_of-mark_bit : (mark : Bool) → mark_of (mark_bit mark) ≡ mark
mark_of-mark_bit true = refl
mark_of-mark_bit false = refl

-- Numbers whose lowest binary digit and rest make one number have both in common.
pub record SameDigit (a x b y : ℕ) : Type 0 where
  pub digit : a ≡ b
  pub rest : x ≡ y

same_digit : (a x b y : ℕ) → a < 2 → b < 2 → a + 2 * x ≡ b + 2 * y → SameDigit a x b y
same_digit a x b y ha hb same = record { digit = omega arith; rest = omega arith }

-- What holds at each of eight places.
pub by_place : (P : ℕ → Type 0) → P 0 → P 1 → P 2 → P 3 → P 4 → P 5 → P 6 → P 7 → (r : ℕ) → r < 8 → P r
by_place P p0 p1 p2 p3 p4 p5 p6 p7 zero below = p0
by_place P p0 p1 p2 p3 p4 p5 p6 p7 (suc zero) below = p1
by_place P p0 p1 p2 p3 p4 p5 p6 p7 (suc (suc zero)) below = p2
by_place P p0 p1 p2 p3 p4 p5 p6 p7 (suc (suc (suc zero))) below = p3
by_place P p0 p1 p2 p3 p4 p5 p6 p7 (suc (suc (suc (suc zero)))) below = p4
by_place P p0 p1 p2 p3 p4 p5 p6 p7 (suc (suc (suc (suc (suc zero))))) below = p5
by_place P p0 p1 p2 p3 p4 p5 p6 p7 (suc (suc (suc (suc (suc (suc zero)))))) below = p6
by_place P p0 p1 p2 p3 p4 p5 p6 p7 (suc (suc (suc (suc (suc (suc (suc zero))))))) below = p7
by_place P p0 p1 p2 p3 p4 p5 p6 p7 (suc (suc (suc (suc (suc (suc (suc (suc r)))))))) below = absurd (omega arith)

-- The bit of one place.
same_bit : (s t : List Bool) (k r : ℕ) → marks_byte s k ≡ marks_byte t k → r < 8 → bit_at s (8 * k + r) ≡ bit_at t (8 * k + r)
same_bit s t k r same below =
    let d0 = same_digit _ _ _ _ (mark_bit-small _) (mark_bit-small _) same in
    let d1 = same_digit _ _ _ _ (mark_bit-small _) (mark_bit-small _) d0.rest in
    let d2 = same_digit _ _ _ _ (mark_bit-small _) (mark_bit-small _) d1.rest in
    let d3 = same_digit _ _ _ _ (mark_bit-small _) (mark_bit-small _) d2.rest in
    let d4 = same_digit _ _ _ _ (mark_bit-small _) (mark_bit-small _) d3.rest in
    let d5 = same_digit _ _ _ _ (mark_bit-small _) (mark_bit-small _) d4.rest in
    let d6 = same_digit _ _ _ _ (mark_bit-small _) (mark_bit-small _) d5.rest in
    let d7 = same_digit _ 0 _ 0 (mark_bit-small _) (mark_bit-small _) d6.rest in
    by_place (λ r. bit_at s (8 * k + r) ≡ bit_at t (8 * k + r)) d0.digit d1.digit d2.digit d3.digit d4.digit d5.digit d6.digit d7.digit r below

-- Marks with the same bytes are the same.
pub same_marks : (n : ℕ) (s t : List Bool) → length s ≡ n * 8 → length t ≡ n * 8 → ((k : ℕ) → k < n → marks_byte s k ≡ marks_byte t k) → s ≡ t
same_marks n s t ls lt bytes = same_lists s t (ls ∙ sym lt) (λ i d below.
    let place : 8 * (i / 8) + i % 8 ≡ i = omega arith in
    let bits : bit_at s (8 * (i / 8) + i % 8) ≡ bit_at t (8 * (i / 8) + i % 8) = same_bit s t (i / 8) (i % 8) (bytes (i / 8) (omega arith)) (omega arith) in
    let bit : bit_at s i ≡ bit_at t i = rw place at bits in
    get_or_default s i d false below ∙ (sym (mark_of-mark_bit (slice_index_or s i false)) ∙ ap mark_of bit ∙ mark_of-mark_bit (slice_index_or t i false)) ∙ get_or_default t i false d (omega arith))

-- No bytes spell two page inventories.
pub inventory-one_page : (size : ℕ) (s t : Inventory) (bytes : List ℕ) → SpellsInventory size s bytes → SpellsInventory size t bytes → s ≡ t
inventory-one_page size s t bytes x y =
    let page : s.page ≡ t.page = same_number_4 s.page t.page x.fits.page y.fits.page (sym x.head.page_is ∙ y.head.page_is) in
    let sequence : s.sequence ≡ t.sequence = same_number_4 s.sequence t.sequence x.fits.sequence y.fits.sequence (sym x.head.sequence_is ∙ y.head.sequence_is) in
    let taken : s.taken ≡ t.taken = same_marks (size - 16) s.taken t.taken x.fits.count y.fits.count (λ k below. sym (x.marks k below) ∙ y.marks k below) in
    let made : ℕ → ℕ → List Bool → Inventory = λ p q r. record { page = p; sequence = q; taken = r } in
    ap (λ (p : ℕ). made p s.sequence s.taken) page ∙ ap (λ (q : ℕ). made t.page q s.taken) sequence ∙ ap (λ (r : List Bool). made t.page t.sequence r) taken

-- A page inventory has one spelling.
pub inventory-one_spelling : (size : ℕ) (inventory : Inventory) (a b : List ℕ) → SpellsInventory size inventory a → SpellsInventory size inventory b → a ≡ b
inventory-one_spelling size inventory a b x y =
    same_pages size a b x.size_is y.size_is (same_front-head 2 0 inventory.page inventory.sequence a b x.head y.head) (λ k below. x.marks k below ∙ sym (y.marks k below))
