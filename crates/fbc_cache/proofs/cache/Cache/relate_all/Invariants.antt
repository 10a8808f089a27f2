-- What the high pages that are left come to.
use Rattle.std.proofs.Common.{drop}
use Rattle.fbc_cache.proofs.Relating.{IsRelating}
use Rattle.fbc_cache.proofs.cache.Cache.relate_all.Given as goal

abbrev pub invariant-loop-high : goal.invariant-loop-high
invariant-loop-high l = IsRelating l.initial.self l.self l.page l.highs (drop l.high-index l.highs)
