-- Bytes that spell a header, an inventory, a pointer page or a blank page are bytes.
use Rattle.std.proofs.Common.{◌≡◌, ◌<◌, ◌≤◌, ◌+◌, ◌-◌, ◌*◌, ◌/◌, ◌&&◌, ℕ, zero, suc, Bool, true, List, [], ◌∷◌, length, drop, get_or, replicate, Option, None, Some, refl, sym, subst, ap, ◌∙◌, inl, inr, nat_le, arith}
use Rattle.std.specs.Prelude.{slice_get, slice_index, slice_range, codes}
use Rattle.std.specs.List.{flat_map, list_all}
use Rattle.std.proofs.lemmas.Bool.{cases_lt}
use Rattle.std.proofs.lemmas.Bool.Decides.{nat_tests}
use Rattle.std.proofs.lemmas.List.{get_or-take, get_or-drop, get_or_past, length-take}
use Rattle.fbc_kinds.specs.declared.pages.Header.{Header}
use Rattle.fbc_kinds.specs.declared.pages.Inventory.{Inventory}
use Rattle.fbc_kinds.specs.declared.pages.Pointer.{Pointer}
use Rattle.fbc_kinds.specs.declared.pages.Relation.{Relation}
use Rattle.fbc_kinds.specs.declared.pages.Tip.{Tip}
use Rattle.fbc_kinds.specs.Head.{HasHead, little_bytes}
use Rattle.fbc_kinds.specs.HeaderSpelling.{IsRelation, SpellsEntry, SpellsHeader, SpellsRelation, entry_at, is_letter, is_name, is_name_byte}
use Rattle.fbc_kinds.specs.InventorySpelling.{SpellsInventory, marks_byte}
use Rattle.fbc_kinds.specs.Limits.{name_limit}
use Rattle.fbc_kinds.specs.PointerSpelling.{SpellsPointer}
use Rattle.fbc_kinds.specs.TipSpelling.{SpellsTip, states_byte}
use Rattle.fbc_kinds.proofs.Heads.{both_pass}
use Rattle.fbc_kinds.proofs.InventoryLaws.{mark_bit-small}
use Rattle.fbc_kinds.proofs.Names.{is_name-short}
use Rattle.fbc_kinds.proofs.TipLaws.{state_code-small}
use Rattle.fbc_spelling.proofs.ByteLists.{AreBytes}
use Rattle.fbc_spelling.proofs.ByteLists.{padded_small, zeros_small}

-- An item of a range, and one from a place on.
in_range : (from to i : ℕ) (bytes part : List ℕ) → slice_range bytes from to ≡ part → AreBytes part → from ≤ i → i < to → get_or bytes i 0 < 256
in_range from to i bytes part is small low high =
    let place : from + (i - from) ≡ i = omega arith in
    let got : get_or part (i - from) 0 ≡ get_or bytes i 0 =
    ap (λ (p : List ℕ). get_or p (i - from) 0) (sym is)
    ∙ get_or-take (to - from) (drop from bytes) (i - from) 0 (omega arith)
    ∙ get_or-drop from bytes (i - from) 0
    ∙ ap (λ n. get_or bytes n 0) place in
    let P : ℕ → Type 0 = λ n. n < 256 in
    subst P got (small (i - from))

in_rest : (from i : ℕ) (bytes part : List ℕ) → drop from bytes ≡ part → AreBytes part → from ≤ i → get_or bytes i 0 < 256
in_rest from i bytes part is small low =
    let place : from + (i - from) ≡ i = omega arith in
    let got : get_or part (i - from) 0 ≡ get_or bytes i 0 =
    ap (λ (p : List ℕ). get_or p (i - from) 0) (sym is) ∙ get_or-drop from bytes (i - from) 0 ∙ ap (λ n. get_or bytes n 0) place in
    let P : ℕ → Type 0 = λ n. n < 256 in
    subst P got (small (i - from))

past_all : (i : ℕ) (bytes : List ℕ) → length bytes ≤ i → get_or bytes i 0 < 256
past_all i bytes past = let none : get_or bytes i 0 ≡ 0 = get_or_past bytes i 0 past in omega arith

little_2_small : (n : ℕ) → AreBytes (little_bytes 2 n)
little_2_small n zero = omega arith
little_2_small n (suc zero) = omega arith
little_2_small n (suc (suc i)) = omega arith

little_4_small : (n : ℕ) → AreBytes (little_bytes 4 n)
little_4_small n zero = omega arith
little_4_small n (suc zero) = omega arith
little_4_small n (suc (suc zero)) = omega arith
little_4_small n (suc (suc (suc zero))) = omega arith
little_4_small n (suc (suc (suc (suc i)))) = omega arith

mark_small : AreBytes (codes "FBCPAGES")
mark_small zero = omega arith
mark_small (suc zero) = omega arith
mark_small (suc (suc zero)) = omega arith
mark_small (suc (suc (suc zero))) = omega arith
mark_small (suc (suc (suc (suc zero)))) = omega arith
mark_small (suc (suc (suc (suc (suc zero))))) = omega arith
mark_small (suc (suc (suc (suc (suc (suc zero)))))) = omega arith
mark_small (suc (suc (suc (suc (suc (suc (suc zero))))))) = omega arith
mark_small (suc (suc (suc (suc (suc (suc (suc (suc i)))))))) = omega arith

-- One of two orders.
part : {X : Type 0} (m i : ℕ) → (i < m → X) → (m ≤ i → X) → X
part m i before after = elim (cases_lt i m) [ inl below ↦ before below | inr past ↦ after (omega arith) ]

-- The head of a page is bytes.
head_small : (kind relation page sequence : ℕ) (bytes : List ℕ) → kind < 256 → HasHead kind relation page sequence bytes → (i : ℕ) → i < 16 → get_or bytes i 0 < 256
head_small kind relation page sequence bytes small h zero below = let is : get_or bytes 0 0 ≡ kind = h.kind_is in omega arith
head_small kind relation page sequence bytes small h (suc zero) below = let is : get_or bytes 1 0 ≡ 1 = h.one in omega arith
head_small kind relation page sequence bytes small h (suc (suc n)) below =
    let i : ℕ = suc (suc n) in
    part 4 i (λ b. in_range 2 4 i bytes (little_bytes 2 relation) h.relation_is (little_2_small relation) (omega arith) b) (λ a.
    part 8 i (λ b. in_range 4 8 i bytes (little_bytes 4 page) h.page_is (little_4_small page) a b) (λ a.
    part 12 i (λ b. in_range 8 12 i bytes (little_bytes 4 sequence) h.sequence_is (little_4_small sequence) a b) (λ a.
    in_range 12 16 i bytes (replicate 4 0) h.zeros (zeros_small 4) a below)))

-- A name is bytes.
name_byte_small : (byte : ℕ) → is_name_byte byte ≡ true → byte < 256
name_byte_small byte passes = grind (arith, nat_tests)

all_small : (text : List ℕ) → list_all is_name_byte text ≡ true → AreBytes text
all_small [] passes i = omega arith
all_small (b ∷ text) passes zero = name_byte_small b (both_pass (is_name_byte b) (list_all is_name_byte text) passes).0
all_small (b ∷ text) passes (suc i) = all_small text (both_pass (is_name_byte b) (list_all is_name_byte text) passes).1 i

name_small : (text : List ℕ) → is_name text ≡ true → AreBytes text
name_small text is =
    all_small text (both_pass (nat_le 1 (length text) && nat_le (length text) name_limit && is_letter (slice_index text 0)) (list_all is_name_byte text) is).1

relation_small : (relation : Relation) (entry : List ℕ) → IsRelation relation → SpellsRelation relation entry → length entry ≤ 36 → AreBytes entry
relation_small relation entry fits s short zero =
    let is : get_or entry 0 0 ≡ length relation.name = s.name_length in
    let few = is_name-short relation.name fits.name in
    omega arith
relation_small relation entry fits s short (suc n) =
    let i : ℕ = suc n in
    part 16 i (λ b. in_range 1 16 i entry _ s.name (padded_small 15 relation.name (name_small relation.name fits.name)) (omega arith) b) (λ a.
    part 18 i (λ b. in_range 16 18 i entry _ s.value_length (little_2_small relation.length) a b) (λ a.
    part 20 i (λ b. in_range 18 20 i entry _ s.pointer_count (little_2_small (length relation.pointers)) a b) (λ a.
    part 36 i (λ b.
    let k : ℕ = (i - 20) / 4 in
    in_range (20 + 4 * k) (20 + 4 * k + 4) i entry _ (s.pointers k (omega arith)) (little_4_small (slice_index relation.pointers k)) (omega arith) (omega arith))
    (λ a. past_all i entry (omega arith)))))

entry_small : (o : Option Relation) (entry : List ℕ) → ((r : Relation) → o ≡ Some r → IsRelation r) → SpellsEntry o entry → length entry ≤ 36 → AreBytes entry
entry_small None entry fits s short = subst AreBytes (sym s) (zeros_small 36)
entry_small (Some relation) entry fits s short = relation_small relation entry (fits relation refl) s short

pub header_small : (size : ℕ) (header : Header) (bytes : List ℕ) → SpellsHeader size header bytes → AreBytes bytes
header_small size header bytes s i =
    part 16 i (λ b. head_small 1 0 0 0 bytes (omega arith) s.head i b) (λ a.
    part 24 i (λ b. in_range 16 24 i bytes (codes "FBCPAGES") s.magic mark_small a b) (λ a.
    part 28 i (λ b. in_range 24 28 i bytes (little_bytes 4 header.size) s.page_size (little_4_small header.size) a b) (λ a.
    part 32 i (λ b. in_range 28 32 i bytes (little_bytes 4 1) s.version (little_4_small 1) a b) (λ a.
    part 36 i (λ b. in_range 32 36 i bytes (little_bytes 4 header.next) s.next (little_4_small header.next) a b) (λ a.
    part 38 i (λ b. in_range 36 38 i bytes _ s.relation_count (little_2_small (length header.relations)) a b) (λ a.
    part 40 i (λ b. in_range 38 40 i bytes _ s.inventory_count (little_2_small header.inventories) a b) (λ a.
    part 42 i (λ b. in_range 40 42 i bytes _ s.tip_count (little_2_small (length header.tips)) a b) (λ a.
    part 44 i (λ b. in_range 42 44 i bytes (little_bytes 2 0) s.unused (little_2_small 0) a b) (λ a.
    part 48 i (λ b. in_range 44 48 i bytes (little_bytes 4 header.oldest) s.oldest (little_4_small header.oldest) a b) (λ a.
    part 336 i (λ b.
    let k : ℕ = (i - 48) / 36 in
    let short : length (entry_at bytes k) ≤ 36 = omega (arith, length-take (48 + 36 * k + 36 - (48 + 36 * k)) (drop (48 + 36 * k) bytes)) in
    in_range (48 + 36 * k) (48 + 36 * k + 36) i bytes (entry_at bytes k) refl
    (entry_small (slice_get header.relations k) (entry_at bytes k) (s.fits.relations k) (s.entries k (omega arith)) short) (omega arith) (omega arith)) (λ a.
    part 400 i (λ b.
    let k : ℕ = (i - 336) / 4 in
    in_range (336 + 4 * k) (336 + 4 * k + 4) i bytes _ (s.tips k (omega arith)) (little_4_small (slice_index header.tips k)) (omega arith) (omega arith))
    (λ a. in_rest 400 i bytes _ s.rest (zeros_small (size - 400)) a))))))))))))

marks_small : (taken : List Bool) (k : ℕ) → marks_byte taken k < 256
marks_small taken k = eight _ _ _ _ _ _ _ _ (mark_bit-small _) (mark_bit-small _) (mark_bit-small _) (mark_bit-small _) (mark_bit-small _) (mark_bit-small _) (mark_bit-small _) (mark_bit-small _)
  where
    eight : (a b c d e f g h : ℕ) → a < 2 → b < 2 → c < 2 → d < 2 → e < 2 → f < 2 → g < 2 → h < 2
        → a + 2 * (b + 2 * (c + 2 * (d + 2 * (e + 2 * (f + 2 * (g + 2 * (h + 2 * 0))))))) < 256
    eight a b c d e f g h sa sb sc sd se sf sg sh = omega arith

-- Pages whose bytes behind the head are one by one below the limit.
body_small : (size kind relation page sequence : ℕ) (bytes : List ℕ) → kind < 256 → HasHead kind relation page sequence bytes → length bytes ≡ size
    → ((k : ℕ) → k < size - 16 → get_or bytes (16 + k) 0 < 256) → AreBytes bytes
body_small size kind relation page sequence bytes small head long each i =
    part 16 i (λ b. head_small kind relation page sequence bytes small head i b) (λ a.
    part size i (λ b.
    let place : 16 + (i - 16) ≡ i = omega arith in
    let P : ℕ → Type 0 = λ n. get_or bytes n 0 < 256 in
    subst P place (each (i - 16) (omega arith)))
    (λ a. past_all i bytes (omega arith)))

pub inventory_small : (size : ℕ) (inventory : Inventory) (bytes : List ℕ) → SpellsInventory size inventory bytes → AreBytes bytes
inventory_small size inventory bytes s =
    body_small size 2 0 inventory.page inventory.sequence bytes (omega arith) s.head s.size_is
    (λ k below. let P : ℕ → Type 0 = λ n. n < 256 in subst P (sym (s.marks k below)) (marks_small inventory.taken k))

states_small : (tip : Tip) (k : ℕ) → states_byte tip.states k < 256
states_small tip k = four _ _ _ _ (state_code-small _) (state_code-small _) (state_code-small _) (state_code-small _)
  where
    four : (a b c d : ℕ) → a < 4 → b < 4 → c < 4 → d < 4 → a + 4 * (b + 4 * (c + 4 * (d + 4 * 0))) < 256
    four a b c d sa sb sc sd = omega arith

pub tip_small : (size : ℕ) (tip : Tip) (bytes : List ℕ) → SpellsTip size tip bytes → AreBytes bytes
tip_small size tip bytes s =
    body_small size 3 0 tip.page tip.sequence bytes (omega arith) s.head s.size_is
    (λ k below. let P : ℕ → Type 0 = λ n. n < 256 in subst P (sym (s.states k below)) (states_small tip k))

slots_small : (numbers : List ℕ) → AreBytes (flat_map (little_bytes 4) numbers)
slots_small [] i = omega arith
slots_small (x ∷ numbers) zero = little_4_small x 0
slots_small (x ∷ numbers) (suc zero) = little_4_small x 1
slots_small (x ∷ numbers) (suc (suc zero)) = little_4_small x 2
slots_small (x ∷ numbers) (suc (suc (suc zero))) = little_4_small x 3
slots_small (x ∷ numbers) (suc (suc (suc (suc i)))) = slots_small numbers i

pub pointer_small : (size : ℕ) (pointer : Pointer) (bytes : List ℕ) → SpellsPointer size pointer bytes → AreBytes bytes
pointer_small size pointer bytes s i =
    part 16 i (λ b. head_small 4 pointer.relation pointer.page pointer.sequence bytes (omega arith) s.head i b) (λ a.
    in_rest 16 i bytes _ s.slots_are (slots_small pointer.slots) a)

pub blank_small : (size : ℕ) (bytes : List ℕ) → bytes ≡ replicate size 0 → AreBytes bytes
blank_small size bytes is = subst AreBytes (sym is) (zeros_small size)
