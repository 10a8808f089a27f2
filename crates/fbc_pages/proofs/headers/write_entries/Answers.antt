use Rattle.std.proofs.Common.{◌+◌, ◌*◌, ◌∙◌, arith}
use Rattle.std.specs.Prelude.{slice_get}
use Rattle.fbc_kinds.specs.HeaderSpelling.{SpellsEntry}
use Rattle.fbc_kinds.proofs.Pieces.{pieces_more, same_front-shorter}
use Rattle.fbc_pages.proofs.headers.write_entries.Goals as goal

pub loop-i-preserved : goal.loop-i-preserved
loop-i-preserved c = record {
  before = same_front-shorter 48 (48 + 36 * c.loop-i.i) _ _ (omega arith) c.write_entry.ensures.before ∙ c.loop-i.invariant.before;
  entries = pieces_more SpellsEntry (slice_get c.args.relations.now) (λ j. 48 + 36 * j) 36 c.loop-i.i c.loop-i.out c.write_entry.new.out (λ j below. omega arith) c.write_entry.ensures.before c.write_entry.ensures.entry c.loop-i.invariant.entries;
}
