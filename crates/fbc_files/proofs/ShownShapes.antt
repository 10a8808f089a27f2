-- The shape that a file's first bytes show is the shape of the header that they spell.
use Rattle.std.proofs.Common.{◌≡◌, ◌+◌, ◌-◌, ◌*◌, ◌<◌, ◌≤◌, ◌++◌, ℕ, zero, suc, List, [], ◌∷◌, length, map, take, replicate, Some, None, refl, sym, ap, ◌∙◌, arith}
use Rattle.std.specs.Prelude.{Option, slice_get}
use Rattle.std.proofs.lemmas.Option.{get_or_from_slice_get, same_Some, slice_get_past, slice_get_within}
use Rattle.fbc_kinds.specs.declared.pages.Header.{Header}
use Rattle.fbc_kinds.specs.declared.pages.Page.{Page}
use Rattle.fbc_kinds.specs.declared.pages.Page.TheVariants as kind
use Rattle.fbc_kinds.specs.declared.pages.Relation.{Relation}
use Rattle.fbc_kinds.specs.declared.shapes.Shape.{Shape}
use Rattle.fbc_kinds.specs.Head.{number_in}
use Rattle.fbc_kinds.specs.HeaderSpelling.{HasShape, IsHeader, IsRelation, IsFileShape, ShowsShape, SpellsEntry, SpellsHeader, entry_at, name_in, page_size_in, relation_count_in, value_length_in}
use Rattle.fbc_kinds.specs.Limits.{IsPageSize, file_pages}
use Rattle.fbc_kinds.specs.Spelling.{IsSpelling, listed_length}
use Rattle.fbc_kinds.proofs.Heads.{range-take}
use Rattle.fbc_kinds.proofs.HeaderReading.{name_in-spelled}
use Rattle.fbc_kinds.proofs.HeaderUnbroken.{numbers_are}
use Rattle.fbc_kinds.proofs.Names.{is_name-short}
use Rattle.fbc_kinds.proofs.Numbers.{number_in-little_2}
use Rattle.fbc_files.specs.Shapes.{shape_of}

-- What stands in the place of a relation, or of none.
abbrev at_place : {A : Type 0} → (Relation → A) → A → Option Relation → A
at_place f none None = none
at_place f none (Some relation) = f relation

blank_at : {A : Type 0} (none : A) (count i : ℕ) → i < count → slice_get (replicate count none) i ≡ Some none
blank_at none zero i below = absurd (omega arith)
blank_at none (suc count) zero below = refl
blank_at none (suc count) (suc i) below = blank_at none count i (omega arith)

-- A list of what relations have, with something else behind them.
place_is : {A : Type 0} (f : Relation → A) (none : A) (relations : List Relation) (count i : ℕ) → i < length relations + count → slice_get (map f relations ++ replicate count none) i ≡ Some (at_place f none (slice_get relations i))
place_is f none [] count i below = blank_at none count i (omega arith)
place_is f none (relation ∷ relations) count zero below = refl
place_is f none (relation ∷ relations) count (suc i) below = place_is f none relations count i (omega arith)

-- The name and the value length that an entry spells.
entry_name : (place : Option Relation) (entry : List ℕ) → ((r : Relation) → place ≡ Some r → IsRelation r) → SpellsEntry place entry → name_in entry ≡ at_place (λ (r : Relation). r.name) [] place
entry_name (Some r) entry fits is = name_in-spelled r entry (is_name-short r.name (fits r refl).name) is
entry_name None entry fits is = ap name_in is

entry_length : (place : Option Relation) (entry : List ℕ) → ((r : Relation) → place ≡ Some r → IsRelation r) → SpellsEntry place entry → value_length_in entry ≡ at_place (λ (r : Relation). r.length) 0 place
entry_length (Some r) entry fits is = ap (number_in 256) is.value_length ∙ number_in-little_2 r.length (omega (arith, (fits r refl).value_to))
entry_length None entry fits is = ap value_length_in is

-- A shape is a header's.
pub record Agrees (shape : Shape) (header : Header) : Type 0 where
  pub size : shape.size ≡ header.size
  pub count : shape.count ≡ length header.relations
  pub names : (i : ℕ) → i < 8 → slice_get shape.names i ≡ Some (at_place (λ (r : Relation). r.name) [] (slice_get header.relations i))
  pub lengths : (i : ℕ) → i < 8 → slice_get shape.lengths i ≡ Some (at_place (λ (r : Relation). r.length) 0 (slice_get header.relations i))

module _ (header : Header) (page : List ℕ) (sized : IsPageSize header.size) (x : SpellsHeader header.size header page) where
  shown_name : (i : ℕ) → i < 8 → name_in (entry_at (take 1024 page) i) ≡ at_place (λ (r : Relation). r.name) [] (slice_get header.relations i)
  shown_name i below =
      ap name_in (range-take 1024 (48 + 36 * i) (48 + 36 * i + 36) page (omega arith))
      ∙ entry_name (slice_get header.relations i) (entry_at page i) (x.fits.relations i) (x.entries i below)

  shown_length : (i : ℕ) → i < 8 → value_length_in (entry_at (take 1024 page) i) ≡ at_place (λ (r : Relation). r.length) 0 (slice_get header.relations i)
  shown_length i below =
      ap value_length_in (range-take 1024 (48 + 36 * i) (48 + 36 * i + 36) page (omega arith))
      ∙ entry_length (slice_get header.relations i) (entry_at page i) (x.fits.relations i) (x.entries i below)

  shown_size : page_size_in (take 1024 page) ≡ header.size
  shown_size = ap (number_in 256) (range-take 1024 24 28 page (omega arith)) ∙ (numbers_are header.size header page sized x).page_size

  shown_count : relation_count_in (take 1024 page) ≡ length header.relations
  shown_count = ap (number_in 256) (range-take 1024 36 38 page (omega arith)) ∙ (numbers_are header.size header page sized x).relation_count

  -- The header's shape is shown.
  pub ShowsShape-shape_of : (reach : ℕ) → ShowsShape (take 1024 page) reach (shape_of reach header)
  ShowsShape-shape_of reach =
      let few : length header.relations ≤ 8 = x.fits.relations_to in
      record {
        size = sym shown_size;
        count = sym shown_count;
        names = λ i below. place_is (λ (r : Relation). r.name) [] header.relations (8 - length header.relations) i (omega arith) ∙ ap Some (sym (shown_name i below));
        lengths = λ i below. place_is (λ (r : Relation). r.length) 0 header.relations (8 - length header.relations) i (omega arith) ∙ ap Some (sym (shown_length i below));
        limit = ap (λ (size : ℕ). file_pages size reach) (sym shown_size);
      }

  -- A shape that is shown is the header's.
  pub Agrees-shown : (reach : ℕ) (shape : Shape) → ShowsShape (take 1024 page) reach shape → Agrees shape header
  Agrees-shown reach shape shows = record {
    size = shows.size ∙ shown_size;
    count = shows.count ∙ shown_count;
    names = λ i below. shows.names i below ∙ ap Some (shown_name i below);
    lengths = λ i below. shows.lengths i below ∙ ap Some (shown_length i below);
  }

-- Where a place holds a relation.
at_some : {A : Type 0} (f : Relation → A) (none : A) (relations : List Relation) (i : ℕ) (r : Relation) (a : A) → slice_get relations i ≡ Some r → Some a ≡ Some (at_place f none (slice_get relations i)) → a ≡ f r
at_some f none relations i r a at same = same_Some a (f r) (same ∙ ap (λ place. Some (at_place f none place)) at)

module _ (header : Header) (shape : Shape) (fits : IsHeader header.size header) (agrees : Agrees shape header) where
  relation_in_use : (i : ℕ) → i < shape.count → (r : Relation) × (slice_get header.relations i ≡ Some r)
  relation_in_use i below = found header.relations i (omega (arith, agrees.count))
    where
      found : (relations : List Relation) (i : ℕ) → i < length relations → (r : Relation) × (slice_get relations i ≡ Some r)
      found [] i below = absurd (omega arith)
      found (r ∷ relations) zero below = (r, refl)
      found (r ∷ relations) (suc i) below = found relations i (omega arith)

  inside : (i : ℕ) → i < shape.count → i < 8
  inside i below = omega (arith, agrees.count, fits.relations_to)

  name_at : (i : ℕ) (name : List ℕ) (below : i < shape.count) → slice_get shape.names i ≡ Some name → name ≡ (relation_in_use i below).0.name
  name_at i name below at = at_some (λ (r : Relation). r.name) [] header.relations i (relation_in_use i below).0 name (relation_in_use i below).1 (sym at ∙ agrees.names i (inside i below))

  length_at : (i n : ℕ) (below : i < shape.count) → slice_get shape.lengths i ≡ Some n → n ≡ (relation_in_use i below).0.length
  length_at i n below at = at_some (λ (r : Relation). r.length) 0 header.relations i (relation_in_use i below).0 n (relation_in_use i below).1 (sym at ∙ agrees.lengths i (inside i below))

  -- The shape of a header within its limits is within its own.
  pub IsFileShape-agrees : IsPageSize header.size → shape.limit ≤ 64 * ((shape.size - 16) * 8) → IsFileShape shape
  IsFileShape-agrees sized limit = record {
    size = rw agrees.size sized;
    count_from = omega (arith, agrees.count, fits.relations_from);
    count_to = omega (arith, agrees.count, fits.relations_to);
    names = λ i name below at. rw (name_at i name below at) (fits.relations i (relation_in_use i below).0 (relation_in_use i below).1).name;
    no_names = λ i below past. agrees.names i below ∙ ap (λ place. Some (at_place (λ (r : Relation). r.name) [] place)) (slice_get_past header.relations i (omega (arith, agrees.count)));
    own_names = λ i j name below below' at at'.
        fits.names i j (relation_in_use i below).0 (relation_in_use j below').0 (relation_in_use i below).1 (relation_in_use j below').1
        (sym (name_at i name below at) ∙ name_at j name below' at');
    lengths = λ i n below at.
        let relation = fits.relations i (relation_in_use i below).0 (relation_in_use i below).1 in
        let is = length_at i n below at in
        (omega (arith, is, relation.value_from), omega (arith, is, relation.value_to));
    no_lengths = λ i below past. agrees.lengths i below ∙ ap (λ place. Some (at_place (λ (r : Relation). r.length) 0 place)) (slice_get_past header.relations i (omega (arith, agrees.count)));
    limit = limit;
  }

  -- And it is the header's.
  pub HasShape-agrees : HasShape shape header
  HasShape-agrees = record {
    size = sym agrees.size;
    count = sym agrees.count;
    names = λ i r at. agrees.names i (omega (arith, slice_get_within header.relations i r at, fits.relations_to)) ∙ ap (λ place. Some (at_place (λ (r : Relation). r.name) [] place)) at;
    lengths = λ i r at. agrees.lengths i (omega (arith, slice_get_within header.relations i r at, fits.relations_to)) ∙ ap (λ place. Some (at_place (λ (r : Relation). r.length) 0 place)) at;
  }

-- How many pages a shown shape allows.
pub shown_limit : (first : List ℕ) (reach : ℕ) (shape : Shape) → ShowsShape first reach shape → shape.limit ≤ 64 * ((shape.size - 16) * 8)
shown_limit first reach shape shows = rw (shows.limit, shows.size) (omega arith)

-- Shapes of one size and the same value lengths spell the same pages.
pub same_spelling : (shape other : Shape) (page : Page) (bytes : List ℕ) → shape.size ≡ other.size → ((i : ℕ) → i < 8 → listed_length shape i ≡ listed_length other i) → IsSpelling shape page bytes → IsSpelling other page bytes
same_spelling shape other (kind.Header header) bytes size lengths is = rw size at is
same_spelling shape other (kind.Inventory inventory) bytes size lengths is = rw size at is
same_spelling shape other (kind.Tip tip) bytes size lengths is = rw size at is
same_spelling shape other (kind.Pointer pointer) bytes size lengths is = rw size at is
same_spelling shape other (kind.Data versions) bytes size lengths is =
    let length = lengths versions.relation is.fits.relation_fits in
    rw (size, length) at is
same_spelling shape other kind.Blank bytes size lengths is = rw size at is

-- Shapes that the same first bytes show spell the same pages.
pub shown_spelling : (reach : ℕ) (first : List ℕ) (shape other : Shape) (page : Page) (bytes : List ℕ) → ShowsShape first reach shape → ShowsShape first reach other → IsSpelling shape page bytes → IsSpelling other page bytes
shown_spelling reach first shape other page bytes shows shows' is =
    same_spelling shape other page bytes (shows.size ∙ sym shows'.size) (λ i below.
    get_or_from_slice_get shape.lengths i (value_length_in (entry_at first i)) 0 (shows.lengths i below)
    ∙ sym (get_or_from_slice_get other.lengths i (value_length_in (entry_at first i)) 0 (shows'.lengths i below))) is
