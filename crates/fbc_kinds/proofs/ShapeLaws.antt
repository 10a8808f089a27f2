use Rattle.std.proofs.Common.{◌≡◌, ◌+◌, ◌*◌, ◌<◌, ℕ, List, take, Some, sym, ap, ◌∙◌, arith}
use Rattle.std.specs.Prelude.{slice_get}
use Rattle.std.proofs.lemmas.Option.{slice_get_within}
use Rattle.fbc_kinds.specs.declared.pages.Header.{Header}
use Rattle.fbc_kinds.specs.declared.pages.Relation.{Relation}
use Rattle.fbc_kinds.specs.declared.shapes.Shape.{Shape}
use Rattle.fbc_kinds.specs.Head.{number_in}
use Rattle.fbc_kinds.specs.Limits.{IsPageSize}
use Rattle.fbc_kinds.specs.HeaderSpelling.{HasShape, ShowsShape, SpellsHeader, SpellsRelation, SpellsEntry, entry_at, name_in, value_length_in, page_size_in, relation_count_in}
use Rattle.fbc_kinds.proofs.Heads.{range-take}
use Rattle.fbc_kinds.proofs.HeaderReading.{name_in-spelled}
use Rattle.fbc_kinds.proofs.HeaderUnbroken.{numbers_are}
use Rattle.fbc_kinds.proofs.Names.{is_name-short}
use Rattle.fbc_kinds.proofs.Numbers.{number_in-little_2}

-- The relation that a place holds spells its entry.
entry_spelled : (relations : List Relation) (i : ℕ) (r : Relation) (entry : List ℕ) → slice_get relations i ≡ Some r → SpellsEntry (slice_get relations i) entry → SpellsRelation r entry
entry_spelled relations i r entry at is = rw at at is

-- The shape that the first bytes of a spelled header show is the header's.
pub HasShape-shown : (size reach : ℕ) (header : Header) (shape : Shape) (bytes : List ℕ) → IsPageSize size → SpellsHeader size header bytes → ShowsShape (take 1024 bytes) reach shape → HasShape shape header
HasShape-shown size reach header shape bytes is x shows =
    let are = numbers_are size header bytes is x in
    let size_shown : page_size_in (take 1024 bytes) ≡ page_size_in bytes = ap (number_in 256) (range-take 1024 24 28 bytes (omega arith)) in
    let count_shown : relation_count_in (take 1024 bytes) ≡ relation_count_in bytes = ap (number_in 256) (range-take 1024 36 38 bytes (omega arith)) in
    record {
      size = sym (shows.size ∙ (size_shown ∙ are.page_size));
      count = sym (shows.count ∙ (count_shown ∙ are.relation_count));
      names = λ i r at.
          let below : i < 8 = omega (arith, slice_get_within header.relations i r at, x.fits.relations_to) in
          let fits = x.fits.relations i r at in
          let entry = range-take 1024 (48 + 36 * i) (48 + 36 * i + 36) bytes (omega arith) in
          let spelled = entry_spelled header.relations i r (entry_at bytes i) at (x.entries i below) in
          shows.names i below ∙ ap Some (ap name_in entry ∙ name_in-spelled r (entry_at bytes i) (is_name-short r.name fits.name) spelled);
      lengths = λ i r at.
          let below : i < 8 = omega (arith, slice_get_within header.relations i r at, x.fits.relations_to) in
          let fits = x.fits.relations i r at in
          let entry = range-take 1024 (48 + 36 * i) (48 + 36 * i + 36) bytes (omega arith) in
          let spelled = entry_spelled header.relations i r (entry_at bytes i) at (x.entries i below) in
          shows.lengths i below ∙ ap Some (ap value_length_in entry ∙ (ap (number_in 256) spelled.value_length ∙ number_in-little_2 r.length (omega (arith, fits.value_to))));
    }
