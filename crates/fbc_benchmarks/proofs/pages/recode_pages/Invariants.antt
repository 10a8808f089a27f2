use Rattle.fbc_benchmarks.specs.Turns.{HoldsLast}
use Rattle.fbc_benchmarks.proofs.pages.recode_pages.Given as goal

abbrev pub invariant-loop-turn : goal.invariant-loop-turn
invariant-loop-turn l = HoldsLast l.turn l.pages l.out
