use Rattle.std.proofs.Common.{◌∙◌, ap, sym, set}
use Rattle.std.proofs.lemmas.List.Edits.{map_over_more}
use Rattle.fbc_buffers.specs.Holding.{granted_wait}
use Rattle.fbc_buffers.proofs.changes.grant_all.Goals as goal

pub loop-buffer-preserved : goal.loop-buffer-preserved
loop-buffer-preserved c =
    ap (set c.loop-buffer.buffer-items c.loop-buffer.buffer-index) (c.grant.ensures ∙ ap granted_wait (sym c.buffer-item.is))
    ∙ map_over_more granted_wait c.deref_mut-buffer-items.result.now c.loop-buffer.buffer-items c.loop-buffer.buffer-index c.buffer-item.result
    c.loop-buffer-test.true c.loop-buffer.invariant c.buffer-item.is
