use Rattle.std.proofs.Common.{◌≡◌, ◌-◌, ◌≤◌, length, ◌∙◌, ap, arith}
use Rattle.std.specs.Prelude.{replicate}
use Rattle.fbc_kinds.proofs.Numbers.{length-range}
use Rattle.fbc_pages.proofs.HeaderWrites.{SpellsHeader-laid}
use Rattle.fbc_pages.proofs.headers.encode_header.Goals as goal

pub write_entries-requires-clause-relations : goal.write_entries-requires-clause-relations
write_entries-requires-clause-relations c = rw c.items.ensures c.requires.page.relations

pub returns : goal.returns
returns c =
    let tips = c.write_numbers.new.out in
    let all : length tips ≤ length tips = omega arith in
    let whole : length tips - 400 ≡ c.args.size - 400 = omega arith in
    let zeroed = c.write_zeros.ensures ∙ ap (λ n. replicate n 0) (length-range 400 (length tips) tips all ∙ whole) in
    SpellsHeader-laid c.args.size _ c.args.page.now c.write_head.new.out c.lay_marks.new.out c.lay_counts.new.out c.write_entries.new.out c.write_numbers.new.out c.write_zeros.new.out c.requires.page (omega arith) (omega arith) (omega arith) (omega arith) c.write_head.ensures.head c.lay_marks.ensures c.lay_counts.ensures c.write_entries.ensures.before (rw c.items.ensures at c.write_entries.ensures.entries) c.write_numbers.ensures.before (rw c.items-2.ensures at c.write_numbers.ensures.numbers) zeroed whole
