-- What is known of the buffers so far.
use Rattle.std.proofs.Common.{take}
use Rattle.fbc_cache.proofs.Dirty.{IsLeastOf}
use Rattle.fbc_cache.proofs.cache.Cache.least_next.Given as goal

abbrev pub invariant-loop-buffer : goal.invariant-loop-buffer
invariant-loop-buffer l = IsLeastOf l.self (take l.buffer-index l.self.held) l.least
