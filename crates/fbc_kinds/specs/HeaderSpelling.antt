use Rattle.std.specs.Prelude.{◌%◌, [], ◌≢◌, not, nat_lt, if◌then◌else◌, ◌≡◌, ◌<◌, ◌≤◌, ◌+◌, ◌*◌, ◌-◌, ◌==◌, ◌&&◌, ◌||◌, ℕ, Bool, IsTrue, List, Option, Some, None, length, nat_le, replicate, codes, slice_get, slice_index, slice_range, drop}
use Rattle.std.specs.List.{list_all}
use Rattle.std.specs.Str.{bytes_eq}
use Rattle.fbc_kinds.specs.declared.rules.Rule.{Rule}
use Rattle.fbc_kinds.specs.declared.rules.Rule.TheVariants as rule
use Rattle.fbc_kinds.specs.declared.pages.Header.{Header}
use Rattle.fbc_kinds.specs.declared.pages.Relation.{Relation}
use Rattle.fbc_kinds.specs.declared.shapes.Shape.{Shape}
use Rattle.fbc_kinds.specs.Limits.{IsPageSize, is_page_size, file_pages, inventory_bits, relation_limit, pointer_limit, value_limit, name_limit, inventory_limit, tip_limit, tip_numbers, transaction_limit, number_limit}
use Rattle.fbc_kinds.specs.Padding.{padded}
use Rattle.fbc_kinds.specs.Head.{HasHead, little_bytes, number_at, is_zeros, any_below, is_within, broken_head, or_else}

-- A small letter.
abbrev pub is_letter : ℕ → Bool
is_letter byte = nat_le 97 byte && nat_le byte 122

-- A byte of a name: a small letter, a digit or `_`.
abbrev pub is_name_byte : ℕ → Bool
is_name_byte byte = is_letter byte || (nat_le 48 byte && nat_le byte 57) || byte == 95

-- A name has 1 to 15 bytes of these and begins with a letter.
abbrev pub is_name : List ℕ → Bool
is_name text = nat_le 1 (length text) && nat_le (length text) name_limit && is_letter (slice_index text 0) && list_all is_name_byte text

-- A page number that names a page other than the header.
pub record IsPageNumber (page : ℕ) : Type 0 where
  pub names : 0 < page
  pub below : page < number_limit

-- Each of these numbers names a page other than the header.
abbrev pub ArePageNumbers : List ℕ → Type 0
ArePageNumbers pages = (i : ℕ) → i < length pages → IsPageNumber (slice_index pages i)

-- A relation within its limits.
pub record IsRelation (relation : Relation) : Type 0 where
  pub name : IsTrue (is_name relation.name)
  pub value_from : 1 ≤ relation.length
  pub value_to : relation.length ≤ value_limit
  pub pointers_from : 1 ≤ length relation.pointers
  pub pointers_to : length relation.pointers ≤ pointer_limit
  pub pointers : ArePageNumbers relation.pointers

-- No two relations have one name.
abbrev pub HaveOwnNames : List Relation → Type 0
HaveOwnNames relations = (i j : ℕ) (r s : Relation) → slice_get relations i ≡ Some r → slice_get relations j ≡ Some s → r.name ≡ s.name → i ≡ j

-- A header within its limits.
pub record IsHeader (size : ℕ) (header : Header) : Type 0 where
  pub page_size : header.size ≡ size
  pub next_from : 1 ≤ header.next
  pub next_to : header.next ≤ transaction_limit size
  pub next_stands : header.next ≤ tip_numbers size * length header.tips
  pub relations_from : 1 ≤ length header.relations
  pub relations_to : length header.relations ≤ relation_limit
  pub inventories_from : 1 ≤ header.inventories
  pub inventories_to : header.inventories ≤ inventory_limit
  pub tips_from : 1 ≤ length header.tips
  pub tips_to : length header.tips ≤ tip_limit
  pub relations : (i : ℕ) (r : Relation) → slice_get header.relations i ≡ Some r → IsRelation r
  pub names : HaveOwnNames header.relations
  pub tips : ArePageNumbers header.tips
  pub oldest : header.oldest ≡ 0

-- The 36 bytes of a relation's entry.
pub record SpellsRelation (relation : Relation) (entry : List ℕ) : Type 0 where
  pub name_length : slice_index entry 0 ≡ length relation.name
  pub name : slice_range entry 1 16 ≡ padded name_limit relation.name
  pub value_length : slice_range entry 16 18 ≡ little_bytes 2 relation.length
  pub pointer_count : slice_range entry 18 20 ≡ little_bytes 2 (length relation.pointers)
  pub pointers : (i : ℕ) → i < pointer_limit → slice_range entry (20 + 4 * i) (20 + 4 * i + 4) ≡ little_bytes 4 (slice_index relation.pointers i)

-- An entry without a relation is zeros.
abbrev pub SpellsEntry : Option Relation → List ℕ → Type 0
SpellsEntry (Some relation) entry = SpellsRelation relation entry
SpellsEntry None entry = entry ≡ replicate 36 0

-- The entry of the relation with this number.
abbrev pub entry_at : List ℕ → ℕ → List ℕ
entry_at bytes i = slice_range bytes (48 + 36 * i) (48 + 36 * i + 36)

-- These bytes spell this header.
pub record SpellsHeader (size : ℕ) (header : Header) (bytes : List ℕ) : Type 0 where
  pub fits : IsHeader size header
  pub size_is : length bytes ≡ size
  pub head : HasHead 1 0 0 0 bytes
  pub magic : slice_range bytes 16 24 ≡ codes "FBCPAGES"
  pub page_size : slice_range bytes 24 28 ≡ little_bytes 4 header.size
  pub version : slice_range bytes 28 32 ≡ little_bytes 4 1
  pub next : slice_range bytes 32 36 ≡ little_bytes 4 header.next
  pub relation_count : slice_range bytes 36 38 ≡ little_bytes 2 (length header.relations)
  pub inventory_count : slice_range bytes 38 40 ≡ little_bytes 2 header.inventories
  pub tip_count : slice_range bytes 40 42 ≡ little_bytes 2 (length header.tips)
  pub unused : slice_range bytes 42 44 ≡ little_bytes 2 0
  pub oldest : slice_range bytes 44 48 ≡ little_bytes 4 header.oldest
  pub entries : (i : ℕ) → i < relation_limit → SpellsEntry (slice_get header.relations i) (entry_at bytes i)
  pub tips : (i : ℕ) → i < tip_limit → slice_range bytes (336 + 4 * i) (336 + 4 * i + 4) ≡ little_bytes 4 (slice_index header.tips i)
  pub rest : drop 400 bytes ≡ replicate (size - 400) 0

-- The header begins with the store's mark.
abbrev pub has_mark : List ℕ → Bool
has_mark bytes = bytes_eq (slice_range bytes 16 24) (codes "FBCPAGES")

-- The page size that the header names.
abbrev pub page_size_in : List ℕ → ℕ
page_size_in bytes = number_at 24 28 bytes

-- The file version that the header names.
abbrev pub version_in : List ℕ → ℕ
version_in bytes = number_at 28 32 bytes

-- The next transaction number.
abbrev pub next_in : List ℕ → ℕ
next_in bytes = number_at 32 36 bytes

-- How many relations the header counts.
abbrev pub relation_count_in : List ℕ → ℕ
relation_count_in bytes = number_at 36 38 bytes

-- How many page inventory pages it counts.
abbrev pub inventory_count_in : List ℕ → ℕ
inventory_count_in bytes = number_at 38 40 bytes

-- How many transaction inventory pages it counts.
abbrev pub tip_count_in : List ℕ → ℕ
tip_count_in bytes = number_at 40 42 bytes

-- An entry's name.
abbrev pub name_in : List ℕ → List ℕ
name_in entry = slice_range entry 1 (1 + slice_index entry 0)

-- An entry's value length.
abbrev pub value_length_in : List ℕ → ℕ
value_length_in entry = number_at 16 18 entry

-- How many pointer pages an entry counts.
abbrev pub pointer_count_in : List ℕ → ℕ
pointer_count_in entry = number_at 18 20 entry

-- The page number at a place of a row of them.
abbrev pub page_number_in : ℕ → List ℕ → ℕ → ℕ
page_number_in from bytes i = number_at (from + 4 * i) (from + 4 * i + 4) bytes

-- A used page number is 0, or an unused one is not.
abbrev pub has_bad_number : ℕ → ℕ → List ℕ → ℕ → Bool
has_bad_number used from bytes i = if nat_lt i used then page_number_in from bytes i == 0 else not (page_number_in from bytes i == 0)

-- The next transaction number is 0, above the limit, or stands in no page.
abbrev pub has_bad_next : ℕ → List ℕ → Bool
has_bad_next size bytes =
    next_in bytes == 0 || nat_lt (transaction_limit size) (next_in bytes) || nat_lt (tip_numbers size * tip_count_in bytes) (next_in bytes)

-- A count is out of its range, or the bytes after the counts are not zero.
abbrev pub has_bad_count : List ℕ → Bool
has_bad_count bytes =
    not (is_within 1 relation_limit (relation_count_in bytes))
    || not (is_within 1 inventory_limit (inventory_count_in bytes))
    || not (is_within 1 tip_limit (tip_count_in bytes))
    || not (number_at 42 44 bytes == 0)

-- An entry holds a name, and zeros after it.
abbrev pub holds_name : List ℕ → Bool
holds_name entry = nat_le (slice_index entry 0) name_limit && is_name (name_in entry) && is_zeros (slice_range entry (1 + slice_index entry 0) 16)

-- A used entry holds no name, or an unused one is not zero there.
abbrev pub has_bad_name : List ℕ → ℕ → Bool
has_bad_name bytes i =
    if nat_lt i (relation_count_in bytes) then not (holds_name (entry_at bytes i)) else not (is_zeros (slice_range (entry_at bytes i) 0 16))

-- A relation has the name of an earlier one.
abbrev pub repeats_name : List ℕ → ℕ → Bool
repeats_name bytes i = any_below (λ j. bytes_eq (name_in (entry_at bytes j)) (name_in (entry_at bytes i))) i

-- A used entry's value length is out of its range, or an unused one's is not 0.
abbrev pub has_bad_value : List ℕ → ℕ → Bool
has_bad_value bytes i =
    if nat_lt i (relation_count_in bytes) then not (is_within 1 value_limit (value_length_in (entry_at bytes i))) else not (value_length_in (entry_at bytes i) == 0)

-- A used entry's number of pointer pages is out of its range, or an unused one's is not 0.
abbrev pub has_bad_pointer_count : List ℕ → ℕ → Bool
has_bad_pointer_count bytes i =
    if nat_lt i (relation_count_in bytes) then not (is_within 1 pointer_limit (pointer_count_in (entry_at bytes i))) else not (pointer_count_in (entry_at bytes i) == 0)

-- An entry's pointer pages are wrong.
abbrev pub has_bad_pointers : List ℕ → ℕ → Bool
has_bad_pointers bytes i =
    has_bad_pointer_count bytes i || any_below (has_bad_number (pointer_count_in (entry_at bytes i)) 20 (entry_at bytes i)) pointer_limit

-- Some entry's name is wrong.
abbrev pub has_bad_names : List ℕ → Bool
has_bad_names bytes = any_below (has_bad_name bytes) relation_limit || any_below (repeats_name bytes) (relation_count_in bytes)

-- Some entry's value length is wrong.
abbrev pub has_bad_values : List ℕ → Bool
has_bad_values bytes = any_below (has_bad_value bytes) relation_limit

-- Some entry's pointer pages are wrong.
abbrev pub has_some_bad_pointers : List ℕ → Bool
has_some_bad_pointers bytes = any_below (has_bad_pointers bytes) relation_limit

-- The row of transaction inventory pages is wrong.
abbrev pub has_bad_tips : List ℕ → Bool
has_bad_tips bytes = any_below (has_bad_number (tip_count_in bytes) 336 bytes) tip_limit

-- The oldest transaction is not 0.
abbrev pub has_bad_oldest : List ℕ → Bool
has_bad_oldest bytes = not (number_at 44 48 bytes == 0)

-- A byte past the header's content is not zero.
abbrev pub has_bad_rest : List ℕ → Bool
has_bad_rest bytes = not (is_zeros (drop 400 bytes))

-- The first rule that a header's mark, size and version break, where the size is right or not.
abbrev pub broken_front : Bool → List ℕ → Option Rule
broken_front right_size bytes =
    if not (has_mark bytes) then Some rule.Magic
    else if not right_size then Some rule.Size
    else if not (version_in bytes == 1) then Some rule.Version
    else None

-- The first rule that its numbers break.
abbrev pub broken_counts : ℕ → List ℕ → Option Rule
broken_counts size bytes = if has_bad_next size bytes then Some rule.Next else if has_bad_count bytes then Some rule.Count else None

-- The first rule that its relations break.
abbrev pub broken_relations : List ℕ → Option Rule
broken_relations bytes =
    if has_bad_names bytes then Some rule.Name
    else if has_bad_values bytes then Some rule.Value
    else if has_some_bad_pointers bytes then Some rule.Pointers
    else None

-- The first rule that what follows the relations breaks.
abbrev pub broken_end : List ℕ → Option Rule
broken_end bytes =
    if has_bad_tips bytes then Some rule.Tips
    else if has_bad_oldest bytes then Some rule.Oldest
    else if has_bad_rest bytes then Some rule.Rest
    else None

-- The first rule that the content of a header breaks, as far as these bytes show it.
abbrev pub broken_content : ℕ → List ℕ → Option Rule
broken_content size bytes = or_else (broken_counts size bytes) (or_else (broken_relations bytes) (broken_end bytes))

-- The first rule that the bytes of a header break.
abbrev pub broken_header : ℕ → List ℕ → Option Rule
broken_header size bytes =
    or_else (broken_head 1 0 bytes) (or_else (broken_front (page_size_in bytes == size) bytes) (broken_content size bytes))

-- An entry from which a relation can be read.
pub record IsFairEntry (entry : List ℕ) : Type 0 where
  pub wide : length entry ≡ 36
  pub short : slice_index entry 0 ≤ 15
  pub name : IsTrue (is_name (name_in entry))
  pub padding : slice_range entry (1 + slice_index entry 0) 16 ≡ replicate (15 - slice_index entry 0) 0
  pub value_from : 1 ≤ value_length_in entry
  pub value_to : value_length_in entry ≤ 200
  pub count_from : 1 ≤ pointer_count_in entry
  pub count_to : pointer_count_in entry ≤ 4
  pub used : (i : ℕ) → i < pointer_count_in entry → page_number_in 20 entry i ≢ 0
  pub unused : (i : ℕ) → i < 4 → pointer_count_in entry ≤ i → page_number_in 20 entry i ≡ 0

-- A relation that was read, and its entry.
pub record IsRead (bytes : List ℕ) (i : ℕ) (relation : Relation) : Type 0 where
  pub fits : IsRelation relation
  pub spelled : SpellsRelation relation (entry_at bytes i)

-- Where a file is recognised, a wrong own number is a fault of the head.
abbrev pub as_recognised : Option Rule → Option Rule
as_recognised (Some rule.Number) = Some rule.Head
as_recognised broken = broken

-- The rule of a file's length: it is a multiple of the page size.
abbrev pub broken_length : ℕ → ℕ → Option Rule
broken_length size bytes = if not (bytes % size == 0) then Some rule.Length else None

-- The first rule that the first 1024 bytes of a file of this length break.
abbrev pub broken_beginning : List ℕ → ℕ → Option Rule
broken_beginning first bytes =
    or_else (as_recognised (broken_head 1 0 first))
    (or_else (broken_front (is_page_size (page_size_in first)) first)
    (or_else (broken_length (page_size_in first) bytes) (broken_content (page_size_in first) first)))

-- The first rule that a file of this length breaks.
abbrev pub broken_file : List ℕ → ℕ → Option Rule
broken_file first bytes = if nat_lt bytes 1024 then Some rule.Short else broken_beginning first bytes

-- The shape that the first bytes of a file show, where its device reaches so far.
pub record ShowsShape (first : List ℕ) (reach : ℕ) (shape : Shape) : Type 0 where
  pub size : shape.size ≡ page_size_in first
  pub count : shape.count ≡ relation_count_in first
  pub names : (i : ℕ) → i < relation_limit → slice_get shape.names i ≡ Some (name_in (entry_at first i))
  pub lengths : (i : ℕ) → i < relation_limit → slice_get shape.lengths i ≡ Some (value_length_in (entry_at first i))
  pub limit : shape.limit ≡ file_pages (page_size_in first) reach

-- A shape within its limits.
pub record IsFileShape (shape : Shape) : Type 0 where
  pub size : IsPageSize shape.size
  pub count_from : 1 ≤ shape.count
  pub count_to : shape.count ≤ relation_limit
  pub names : (i : ℕ) (name : List ℕ) → i < shape.count → slice_get shape.names i ≡ Some name → IsTrue (is_name name)
  pub no_names : (i : ℕ) → i < relation_limit → shape.count ≤ i → slice_get shape.names i ≡ Some []
  pub own_names : (i j : ℕ) (name : List ℕ) → i < shape.count → j < shape.count → slice_get shape.names i ≡ Some name → slice_get shape.names j ≡ Some name → i ≡ j
  pub lengths : (i n : ℕ) → i < shape.count → slice_get shape.lengths i ≡ Some n → (1 ≤ n) × (n ≤ value_limit)
  pub no_lengths : (i : ℕ) → i < relation_limit → shape.count ≤ i → slice_get shape.lengths i ≡ Some 0
  pub limit : shape.limit ≤ inventory_limit * inventory_bits shape.size

-- This shape is a header's: its size, and the names and value lengths of its relations.
pub record HasShape (shape : Shape) (header : Header) : Type 0 where
  pub size : header.size ≡ shape.size
  pub count : length header.relations ≡ shape.count
  pub names : (i : ℕ) (r : Relation) → slice_get header.relations i ≡ Some r → slice_get shape.names i ≡ Some r.name
  pub lengths : (i : ℕ) (r : Relation) → slice_get header.relations i ≡ Some r → slice_get shape.lengths i ≡ Some r.length
