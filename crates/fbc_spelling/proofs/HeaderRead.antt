-- The header that bytes spell where they break no rule.
use Rattle.std.proofs.Common.{◌≡◌, ◌<◌, ◌≤◌, ◌+◌, ◌*◌, ℕ, List, length, get_or, map, None, Some, sym, subst, ◌∙◌, arith}
use Rattle.std.specs.Prelude.{slice_get}
use Rattle.std.specs.List.{range_with_len}
use Rattle.std.proofs.lemmas.List.FromFn.{length-map-range_with_len, get_or-map-range_with_len}
use Rattle.std.proofs.lemmas.Option.{slice_get_within, get_or_from_slice_get}
use Rattle.fbc_kinds.specs.declared.pages.Header.{Header}
use Rattle.fbc_kinds.specs.declared.pages.Relation.{Relation}
use Rattle.fbc_kinds.specs.Head.{number_at}
use Rattle.fbc_kinds.specs.HeaderSpelling.{IsRead, SpellsHeader, broken_header, entry_at, inventory_count_in, name_in, next_in, page_number_in, pointer_count_in, relation_count_in, tip_count_in, value_length_in}
use Rattle.fbc_kinds.proofs.HeaderReading.{SpellsHeader-read, counts_pass, header_passes}
use Rattle.fbc_kinds.proofs.HeaderRules.{IsFairEntry-used, IsRelation-read, SpellsRelation-read, relations_pass}
use Rattle.fbc_kinds.proofs.Heads.{header_head}
use Rattle.fbc_kinds.proofs.Numbers.{range_small}
use Rattle.fbc_spelling.proofs.ByteLists.{AreBytes}

-- The page numbers from a place on.
abbrev numbers_in : ℕ → ℕ → List ℕ → List ℕ
numbers_in from count bytes = map (page_number_in from bytes) (range_with_len 0 count)

-- The relation that an entry spells.
abbrev relation_in : List ℕ → Relation
relation_in entry = record { name = name_in entry; length = value_length_in entry; pointers = numbers_in 20 (pointer_count_in entry) entry }

abbrev relation_at : List ℕ → ℕ → Relation
relation_at bytes i = relation_in (entry_at bytes i)

abbrev relations_in : List ℕ → List Relation
relations_in bytes = map (relation_at bytes) (range_with_len 0 (relation_count_in bytes))

-- The header that the bytes spell.
abbrev pub header_in : ℕ → List ℕ → Header
header_in size bytes = record {
  size = size;
  next = next_in bytes;
  inventories = inventory_count_in bytes;
  oldest = number_at 44 48 bytes;
  relations = relations_in bytes;
  tips = numbers_in 336 (tip_count_in bytes) bytes;
}

number_of : (from count : ℕ) (bytes : List ℕ) (i : ℕ) → i < count → get_or (numbers_in from count bytes) i 0 ≡ page_number_in from bytes i
number_of from count bytes i below = get_or-map-range_with_len (page_number_in from bytes) 0 count i i 0 below (omega arith)

-- What stands at a place of a list that was made by a function of the place.
at_place : {X : Type 0} (f : ℕ → X) (n i : ℕ) (x : X) → slice_get (map f (range_with_len 0 n)) i ≡ Some x → (i < n) × (f i ≡ x)
at_place f n i x stands =
    let below : i < n = omega (arith, slice_get_within (map f (range_with_len 0 n)) i x stands, length-map-range_with_len f 0 n) in
    (below, sym (get_or-map-range_with_len f 0 n i i x below (omega arith)) ∙ get_or_from_slice_get (map f (range_with_len 0 n)) i x x stands)

module _ (size : ℕ) (bytes : List ℕ) (large : 400 ≤ size) (small : AreBytes bytes) (long : length bytes ≡ size) (unbroken : broken_header size bytes ≡ None) where
  -- Each of these relations is spelled by its entry.
  relation_read : (i : ℕ) → i < relation_count_in bytes → IsRead bytes i (relation_at bytes i)
  relation_read i below =
      let entry = entry_at bytes i in
      let passes = header_passes size bytes unbroken in
      let counts = counts_pass size bytes passes.counts in
      let few : (k : ℕ) → get_or entry k 0 < 256 = range_small (48 + 36 * i) (48 + 36 * i + 36) bytes small in
      let fair = IsFairEntry-used bytes i (omega arith) (relations_pass bytes passes.relations) (omega (arith, counts.relations_to)) below in
      let count = length-map-range_with_len (page_number_in 20 entry) 0 (pointer_count_in entry) in
      let numbers = number_of 20 (pointer_count_in entry) entry in
      record { fits = IsRelation-read entry _ few fair count numbers; spelled = SpellsRelation-read entry _ few fair count numbers }

  relations_read : (i : ℕ) (r : Relation) → slice_get (relations_in bytes) i ≡ Some r → IsRead bytes i r
  relations_read i r stands =
      let at = at_place (relation_at bytes) (relation_count_in bytes) i r stands in
      subst (IsRead bytes i) at.1 (relation_read i at.0)

  pub header_spelled : SpellsHeader size (header_in size bytes) bytes
  header_spelled =
      let passes = header_passes size bytes unbroken in
      SpellsHeader-read size (relations_in bytes) (numbers_in 336 (tip_count_in bytes) bytes) bytes large small long
      (header_head bytes small (omega arith) passes.head) passes.front passes.content
      (length-map-range_with_len (relation_at bytes) 0 (relation_count_in bytes)) relations_read
      (length-map-range_with_len (page_number_in 336 bytes) 0 (tip_count_in bytes)) (number_of 336 (tip_count_in bytes) bytes)
