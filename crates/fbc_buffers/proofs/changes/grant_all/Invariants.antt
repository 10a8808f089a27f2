use Rattle.std.proofs.Common.{◌≡◌, ◌++◌, map, take, drop}
use Rattle.fbc_buffers.specs.Holding.{granted_wait}
use Rattle.fbc_buffers.proofs.changes.grant_all.Given as goal

abbrev pub invariant-loop-buffer : goal.invariant-loop-buffer
invariant-loop-buffer l =
    l.buffer-items ≡ map granted_wait (take l.buffer-index l.initial.buffer-items) ++ drop l.buffer-index l.initial.buffer-items
