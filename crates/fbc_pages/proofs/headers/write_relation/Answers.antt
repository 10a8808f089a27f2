use Rattle.fbc_kinds.proofs.Names.{is_name-short}
use Rattle.fbc_pages.proofs.HeaderWrites.{SpellsRelation-laid}
use Rattle.fbc_pages.proofs.headers.write_relation.Goals as goal

pub returns : goal.returns
returns c =
    SpellsRelation-laid c.args.relation.now c.args.entry.now c.write_name.new.out c.lay_limits.new.out c.write_numbers.new.out c.requires.length (is_name-short c.args.relation.now.name c.requires.relation.name) (rw c.as_bytes.ensures at c.write_name.ensures) c.lay_limits.ensures c.write_numbers.ensures.before (rw c.items.ensures at c.write_numbers.ensures.numbers)
