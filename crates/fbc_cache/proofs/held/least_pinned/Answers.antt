-- The least of the buffers that are in use is that of their pages.
use Rattle.fbc_buffers.specs.declared.buffers.Buffer.{Buffer}
use Rattle.fbc_cache.proofs.Least.{least-seen}
use Rattle.fbc_cache.proofs.held.least_pinned.Goals as goal

pub returns : goal.returns
returns c =
    least-seen (λ (b : Buffer). b.is_pinned) c.args.above c.args.held.now c.loop-buffer.buffer-index c.loop-buffer.least c.loop-buffer-test.false c.loop-buffer.auto.buffer-index-end c.loop-buffer.invariant c.requires.apart
