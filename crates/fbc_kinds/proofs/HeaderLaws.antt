use Rattle.std.proofs.Common.{◌≡◌, ◌+◌, ◌-◌, ◌*◌, ◌^◌, ◌<◌, ◌≤◌, ℕ, List, ◌++◌, length, get_or, take, drop, replicate, Some, None, refl, sym, ap, ◌∙◌, inl, inr, arith}
use Rattle.std.specs.Prelude.{Option, slice_range, slice_index, slice_get}
use Rattle.std.proofs.lemmas.Option.{slice_get-get_or}
use Rattle.std.proofs.lemmas.List.{same_lists, get_or_default, take_all, take_at, take_more_same, length-take, length-drop, take-append-drop}
use Rattle.fbc_kinds.specs.declared.pages.Header.{Header}
use Rattle.fbc_kinds.specs.declared.pages.Relation.{Relation}
use Rattle.fbc_kinds.specs.Head.{little_bytes}
use Rattle.fbc_kinds.specs.Limits.{IsPageSize}
use Rattle.fbc_kinds.specs.HeaderSpelling.{IsHeader, IsRelation, ArePageNumbers, SpellsRelation, SpellsEntry, SpellsHeader, entry_at}
use Rattle.fbc_kinds.specs.Padding.{padded}
use Rattle.fbc_kinds.proofs.Numbers.{same_number_2, same_number_4, length-range}
use Rattle.fbc_kinds.proofs.Pieces.{same_front-range, same_front-pieces, same_front-head}

-- Where a range of four bytes holds a number, the bytes reach so far.
pub reaches : (from n : ℕ) (bytes : List ℕ) → slice_range bytes from (from + 4) ≡ little_bytes 4 n → from + 4 ≤ length bytes
reaches from n bytes holds =
    let width : from + 4 - from ≡ 4 = omega arith in
    let four : length (slice_range bytes from (from + 4)) ≡ 4 = ap length holds in
    let three : length (take (from + 4 - from) (drop from bytes)) ≡ 4 = four in
    omega (arith, length-take (from + 4 - from) (drop from bytes), length-drop from bytes)

-- Two entries of one relation are equal.
same_entries-relation : (relation : Relation) (a b : List ℕ) → length a ≡ 36 → length b ≡ 36 → SpellsRelation relation a → SpellsRelation relation b → a ≡ b
same_entries-relation relation a b la lb x y =
    let one = take_more_same a b 0 0 (omega arith) (omega arith) refl (x.name_length ∙ sym y.name_length) in
    let name = same_front-range 1 15 a b one (x.name ∙ sym y.name) in
    let value = same_front-range 16 2 a b name (x.value_length ∙ sym y.value_length) in
    let count = same_front-range 18 2 a b value (x.pointer_count ∙ sym y.pointer_count) in
    let all = same_front-pieces 20 4 4 a b count (λ i below. x.pointers i below ∙ sym (y.pointers i below)) in
    sym (take_all 36 a (omega arith)) ∙ (all ∙ take_all 36 b (omega arith))

same_entries : (slot : Option Relation) (a b : List ℕ) → length a ≡ 36 → length b ≡ 36 → SpellsEntry slot a → SpellsEntry slot b → a ≡ b
same_entries (Some relation) a b la lb x y = same_entries-relation relation a b la lb x y
same_entries None a b la lb x y = x ∙ sym y

-- A header has one spelling.
pub header-one_spelling : (size : ℕ) (header : Header) (a b : List ℕ) → SpellsHeader size header a → SpellsHeader size header b → a ≡ b
header-one_spelling size header a b x y =
    let la : 400 ≤ length a = reaches 396 _ a (x.tips 15 (omega arith)) in
    let lb : 400 ≤ length b = reaches 396 _ b (y.tips 15 (omega arith)) in
    let head = same_front-head 1 0 0 0 a b x.head y.head in
    let magic = same_front-range 16 8 a b head (x.magic ∙ sym y.magic) in
    let size_of = same_front-range 24 4 a b magic (x.page_size ∙ sym y.page_size) in
    let version = same_front-range 28 4 a b size_of (x.version ∙ sym y.version) in
    let next = same_front-range 32 4 a b version (x.next ∙ sym y.next) in
    let relations = same_front-range 36 2 a b next (x.relation_count ∙ sym y.relation_count) in
    let inventories = same_front-range 38 2 a b relations (x.inventory_count ∙ sym y.inventory_count) in
    let counts = same_front-range 40 2 a b inventories (x.tip_count ∙ sym y.tip_count) in
    let unused = same_front-range 42 2 a b counts (x.unused ∙ sym y.unused) in
    let oldest = same_front-range 44 4 a b unused (x.oldest ∙ sym y.oldest) in
    let entries = same_front-pieces 48 36 8 a b oldest (λ i below.
    same_entries (slice_get header.relations i) (entry_at a i) (entry_at b i)
    (length-range (48 + 36 * i) (48 + 36 * i + 36) a (omega arith) ∙ omega arith)
    (length-range (48 + 36 * i) (48 + 36 * i + 36) b (omega arith) ∙ omega arith)
    (x.entries i below) (y.entries i below)) in
    let tips = same_front-pieces 336 4 16 a b entries (λ i below. x.tips i below ∙ sym (y.tips i below)) in
    let ends : drop 400 a ≡ drop 400 b = x.rest ∙ sym y.rest in
    sym (take-append-drop 400 a) ∙ (ap (λ (front : List ℕ). front ++ drop 400 a) tips ∙ (ap (λ (rest : List ℕ). take 400 b ++ rest) ends ∙ take-append-drop 400 b))

-- Page numbers of one count with the same bytes are the same.
same_page_numbers : (from limit : ℕ) (s t bytes : List ℕ) → length s ≡ length t → length s ≤ limit → ArePageNumbers s → ArePageNumbers t → ((i : ℕ) → i < limit → slice_range bytes (from + 4 * i) (from + 4 * i + 4) ≡ little_bytes 4 (slice_index s i)) → ((i : ℕ) → i < limit → slice_range bytes (from + 4 * i) (from + 4 * i + 4) ≡ little_bytes 4 (slice_index t i)) → s ≡ t
same_page_numbers from limit s t bytes counts within fits fits' x y = same_lists s t counts (λ i d below.
    let here : i < limit = omega arith in
    let there : i < length t = omega arith in
    get_or_default s i d 0 below
    ∙ (same_number_4 (slice_index s i) (slice_index t i) (fits i below).below (fits' i there).below (sym (x i here) ∙ y i here)
    ∙ get_or_default t i 0 d there))

-- No entry spells two relations.
one_relation : (r s : Relation) (entry : List ℕ) → IsRelation r → IsRelation s → SpellsRelation r entry → SpellsRelation s entry → r ≡ s
one_relation r s entry fits fits' x y =
    let size : length r.name ≡ length s.name = sym x.name_length ∙ y.name_length in
    let texts : padded 15 r.name ≡ padded 15 s.name = sym x.name ∙ y.name in
    let name : r.name ≡ s.name =
    sym (take_at r.name (replicate (15 - length r.name) 0) (length r.name) refl)
    ∙ (ap (λ (text : List ℕ). take (length r.name) text) texts
    ∙ take_at s.name (replicate (15 - length s.name) 0) (length r.name) (sym size)) in
    let value : r.length ≡ s.length = same_number_2 r.length s.length (omega (arith, fits.value_to)) (omega (arith, fits'.value_to)) (sym x.value_length ∙ y.value_length) in
    let count : length r.pointers ≡ length s.pointers = same_number_2 (length r.pointers) (length s.pointers) (omega (arith, fits.pointers_to)) (omega (arith, fits'.pointers_to)) (sym x.pointer_count ∙ y.pointer_count) in
    let pointers : r.pointers ≡ s.pointers = same_page_numbers 20 4 r.pointers s.pointers entry count fits.pointers_to fits.pointers fits'.pointers x.pointers y.pointers in
    let made : List ℕ → ℕ → List ℕ → Relation = λ a b c. record { name = a; length = b; pointers = c } in
    ap (λ (a : List ℕ). made a r.length r.pointers) name ∙ (ap (λ (b : ℕ). made s.name b r.pointers) value ∙ ap (λ (c : List ℕ). made s.name s.length c) pointers)

-- The relation of an entry that holds one.
entry_of : (relations : List Relation) (i : ℕ) (d : Relation) (entry : List ℕ) → i < length relations → SpellsEntry (slice_get relations i) entry → SpellsRelation (get_or relations i d) entry
entry_of relations i d entry below is =
    let got = slice_get-get_or relations i d below in
    rw got at is

-- Relations of one count with the same entries are the same.
same_relations : (s t : List Relation) (bytes : List ℕ) → length s ≡ length t → length s ≤ 8 → ((i : ℕ) (r : Relation) → slice_get s i ≡ Some r → IsRelation r) → ((i : ℕ) (r : Relation) → slice_get t i ≡ Some r → IsRelation r) → ((i : ℕ) → i < 8 → SpellsEntry (slice_get s i) (entry_at bytes i)) → ((i : ℕ) → i < 8 → SpellsEntry (slice_get t i) (entry_at bytes i)) → s ≡ t
same_relations s t bytes counts within fits fits' x y = same_lists s t counts (λ i d below.
    let here : i < 8 = omega arith in
    let there : i < length t = omega arith in
    one_relation (get_or s i d) (get_or t i d) (entry_at bytes i)
    (fits i (get_or s i d) (slice_get-get_or s i d below)) (fits' i (get_or t i d) (slice_get-get_or t i d there))
    (entry_of s i d (entry_at bytes i) below (x i here)) (entry_of t i d (entry_at bytes i) there (y i here)))

-- The next transaction number has four bytes.
pub next_fits : (size : ℕ) (header : Header) → IsPageSize size → IsHeader size header → header.next < 2 ^ 32
next_fits size header (inl is) fits = omega (arith, fits.next_to)
next_fits size header (inr (inl is)) fits = omega (arith, fits.next_to)
next_fits size header (inr (inr (inl is))) fits = omega (arith, fits.next_to)
next_fits size header (inr (inr (inr (inl is)))) fits = omega (arith, fits.next_to)
next_fits size header (inr (inr (inr (inr is)))) fits = omega (arith, fits.next_to)

-- No bytes spell two headers.
pub header-one_page : (size : ℕ) (s t : Header) (bytes : List ℕ) → IsPageSize size → SpellsHeader size s bytes → SpellsHeader size t bytes → s ≡ t
header-one_page size s t bytes is x y =
    let page_size : s.size ≡ t.size = x.fits.page_size ∙ sym y.fits.page_size in
    let next : s.next ≡ t.next = same_number_4 s.next t.next (next_fits size s is x.fits) (next_fits size t is y.fits) (sym x.next ∙ y.next) in
    let inventories : s.inventories ≡ t.inventories = same_number_2 s.inventories t.inventories (omega (arith, x.fits.inventories_to)) (omega (arith, y.fits.inventories_to)) (sym x.inventory_count ∙ y.inventory_count) in
    let oldest : s.oldest ≡ t.oldest = x.fits.oldest ∙ sym y.fits.oldest in
    let relation_counts : length s.relations ≡ length t.relations = same_number_2 (length s.relations) (length t.relations) (omega (arith, x.fits.relations_to)) (omega (arith, y.fits.relations_to)) (sym x.relation_count ∙ y.relation_count) in
    let relations : s.relations ≡ t.relations = same_relations s.relations t.relations bytes relation_counts x.fits.relations_to x.fits.relations y.fits.relations x.entries y.entries in
    let tip_counts : length s.tips ≡ length t.tips = same_number_2 (length s.tips) (length t.tips) (omega (arith, x.fits.tips_to)) (omega (arith, y.fits.tips_to)) (sym x.tip_count ∙ y.tip_count) in
    let tips : s.tips ≡ t.tips = same_page_numbers 336 16 s.tips t.tips bytes tip_counts x.fits.tips_to x.fits.tips y.fits.tips x.tips y.tips in
    let made : ℕ → ℕ → ℕ → ℕ → List Relation → List ℕ → Header = λ a b c d e f. record { size = a; next = b; inventories = c; oldest = d; relations = e; tips = f } in
    ap (λ (a : ℕ). made a s.next s.inventories s.oldest s.relations s.tips) page_size
    ∙ (ap (λ (b : ℕ). made t.size b s.inventories s.oldest s.relations s.tips) next
    ∙ (ap (λ (c : ℕ). made t.size t.next c s.oldest s.relations s.tips) inventories
    ∙ (ap (λ (d : ℕ). made t.size t.next t.inventories d s.relations s.tips) oldest
    ∙ (ap (λ (e : List Relation). made t.size t.next t.inventories t.oldest e s.tips) relations
    ∙ ap (λ (f : List ℕ). made t.size t.next t.inventories t.oldest t.relations f) tips))))
