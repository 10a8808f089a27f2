use Rattle.std.proofs.Common.{◌∙◌, arith}
use Rattle.fbc_files.proofs.NewEntries.{new_entries-more}
use Rattle.fbc_files.proofs.new_pages.new_entries.Goals as goal

pub loop-i-preserved : goal.loop-i-preserved
loop-i-preserved c =
    c.in_ok-push.ensures.items
    ∙ new_entries-more c.args.relations.now c.loop-i.i c.loop-i.entries.items c.index-relations-i.result c.new.result (omega arith) c.index-relations-i.is c.loop-i.invariant (c.new.ensures ∙ c.in_ok-vec.ensures.items)
