use Rattle.std.proofs.Common.{ap, ◌∙◌, arith}
use Rattle.fbc_kinds.specs.Limits.{file_pages}
use Rattle.fbc_kinds.specs.HeaderSpelling.{ShowsShape, page_size_in}
use Rattle.fbc_kinds.proofs.ShapeReading.{content_passes, name_is_short, value_is_short, IsFileShape-shown}
use Rattle.fbc_pages.proofs.recognition.shown_shape.Goals as goal

pub shown_names-requires-clause-names : goal.shown_names-requires-clause-names
shown_names-requires-clause-names c =
    let pass = content_passes (page_size_in c.args.first.now) c.args.first.now c.requires.unbroken in
    λ i below. name_is_short c.args.first.now i (λ k. omega (arith, c.type_inv.first k)) (omega (arith, c.requires.length)) pass.relations below

pub shown_lengths-requires-clause-lengths : goal.shown_lengths-requires-clause-lengths
shown_lengths-requires-clause-lengths c =
    let pass = content_passes (page_size_in c.args.first.now) c.args.first.now c.requires.unbroken in
    λ i below. value_is_short c.args.first.now i (λ k. omega (arith, c.type_inv.first k)) (omega (arith, c.requires.length)) pass.relations below

pub returns-clause-shape : goal.returns-clause-shape
returns-clause-shape c = record {
  size = c.read_u32-size.ensures;
  count = c.relation_count.ensures;
  names = c.shown_names.ensures;
  lengths = c.shown_lengths.ensures;
  limit = c.file_pages.ensures ∙ ap (λ size. file_pages size c.args.reach) c.read_u32-size.ensures;
}

pub returns-clause-limits : goal.returns-clause-limits
returns-clause-limits c =
    IsFileShape-shown c.args.reach c.args.first.now _ (λ k. omega (arith, c.type_inv.first k)) (omega (arith, c.requires.length)) c.requires.size c.requires.unbroken (record {
      size = c.read_u32-size.ensures;
      count = c.relation_count.ensures;
      names = c.shown_names.ensures;
      lengths = c.shown_lengths.ensures;
      limit = c.file_pages.ensures ∙ ap (λ size. file_pages size c.args.reach) c.read_u32-size.ensures;
    })
