-- The shape that a header gives a file.
use Rattle.std.specs.Prelude.{◌≡◌, ◌-◌, ◌*◌, ◌≤◌, ◌++◌, ℕ, List, [], length, map, replicate}
use Rattle.fbc_kinds.specs.declared.pages.Header.{Header}
use Rattle.fbc_kinds.specs.declared.pages.Relation.{Relation}
use Rattle.fbc_kinds.specs.declared.shapes.Shape.{Shape}
use Rattle.fbc_kinds.specs.File.{page_bytes}
use Rattle.fbc_kinds.specs.HeaderSpelling.{SpellsHeader}
use Rattle.fbc_kinds.specs.Limits.{IsPageSize, file_pages, relation_limit}

-- How many of the eight places of relations a header leaves unused.
abbrev pub unused_places : Header → ℕ
unused_places header = relation_limit - length header.relations

-- The names and the value lengths of a header's relations, in eight places.
abbrev pub names_of : Header → List (List ℕ)
names_of header = map (λ (relation : Relation). relation.name) header.relations ++ replicate (unused_places header) []

abbrev pub lengths_of : Header → List ℕ
lengths_of header = map (λ (relation : Relation). relation.length) header.relations ++ replicate (unused_places header) 0

-- The shape of a file with this header, where its device reaches so far.
abbrev pub shape_of : ℕ → Header → Shape
shape_of reach header = record {
  size = header.size;
  count = length header.relations;
  names = names_of header;
  lengths = lengths_of header;
  limit = file_pages header.size reach;
}

-- The file has whole pages of a page size, at least one, and the first of them spells this header.
pub record BeginsWith (header : Header) (bytes : List ℕ) : Type 0 where
  pub size : IsPageSize header.size
  pub pages : ℕ
  pub some : 1 ≤ pages
  pub whole : length bytes ≡ header.size * pages
  pub spelled : SpellsHeader header.size header (page_bytes header.size bytes 0)
