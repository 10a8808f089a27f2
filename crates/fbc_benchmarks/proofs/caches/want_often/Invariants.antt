use Rattle.fbc_cache.specs.Wants.{MayWant}
use Rattle.fbc_benchmarks.proofs.caches.want_often.Given as goal

abbrev pub invariant-loop : goal.invariant-loop
invariant-loop l = MayWant l.cache l.need
