use Rattle.std.proofs.Common.{◌+◌, ◌*◌, ◌-◌, ◌≡◌, ◌∙◌, refl, ap, length, arith}
use Rattle.std.specs.Prelude.{replicate}
use Rattle.std.proofs.lemmas.Option.{slice_get_read, slice_get_past}
use Rattle.fbc_kinds.proofs.Numbers.{length-range}
use Rattle.fbc_pages.proofs.HeaderWrites.{SpellsEntry-put}
use Rattle.fbc_pages.proofs.headers.write_entry.Goals as goal

pub write_relation-requires-clause-relation : goal.write_relation-requires-clause-relation
write_relation-requires-clause-relation c =
    c.requires.relations c.args.i c.index-relations-i.result (slice_get_read c.args.relations.now (length c.args.relations.now) c.args.i c.index-relations-i.result refl c.if-i-relations.true c.index-relations-i.is)

pub returns-then-i-relations-clause-entry : goal.returns-then-i-relations-clause-entry
returns-then-i-relations-clause-entry c =
    let at = 48 + 36 * c.args.i in
    let got = slice_get_read c.args.relations.now (length c.args.relations.now) c.args.i c.index-relations-i.result refl c.if-i-relations.true c.index-relations-i.is in
    SpellsEntry-put _ at _ c.args.out.now c.write_relation.new.entry c.requires.length (c.write_relation.auto.entry ∙ length-range at (at + 36) c.args.out.now c.requires.length) (rw got c.write_relation.ensures)

pub returns-else-i-relations-clause-entry : goal.returns-else-i-relations-clause-entry
returns-else-i-relations-clause-entry c =
    let at = 48 + 36 * c.args.i in
    let none = slice_get_past c.args.relations.now c.args.i c.if-i-relations.false in
    let wide = length-range at (at + 36) c.args.out.now c.requires.length in
    let all : at + 36 - at ≡ 36 = omega arith in
    SpellsEntry-put _ at _ c.args.out.now c.write_zeros.new.out c.requires.length (c.write_zeros.auto.out ∙ wide) (rw none (c.write_zeros.ensures ∙ ap (λ n. replicate n 0) (wide ∙ all)))
