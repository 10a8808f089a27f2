-- The least page of the buffers so far.
use Rattle.std.proofs.Common.{◌≡◌, take}
use Rattle.fbc_buffers.specs.declared.buffers.Buffer.{Buffer}
use Rattle.fbc_cache.proofs.Least.{least_of}
use Rattle.fbc_cache.proofs.held.least_pinned.Given as goal

abbrev pub invariant-loop-buffer : goal.invariant-loop-buffer
invariant-loop-buffer l = l.least ≡ least_of (λ (b : Buffer). b.is_pinned) l.above (take l.buffer-index l.held)
