-- An idle ask is not the owner's going.
use Rattle.std.proofs.Common.{◌≢◌}
use Rattle.fbc_world.specs.declared.asks.Ask.{Ask}
use Rattle.fbc_world.specs.declared.asks.Ask.TheVariants as ask
use Rattle.fbc_step_benchmarks.specs.Steps.{IsIdle}

pub idle_stays : (asked : Ask) → IsIdle asked → asked ≢ ask.Leave
idle_stays (ask.Poll above) idle same = absurd cc
idle_stays ask.Look idle same = absurd cc
idle_stays (ask.Note reply) idle same = absurd cc
idle_stays (ask.Enter buffers name) idle same = absurd idle
idle_stays ask.Leave idle same = absurd idle
idle_stays (ask.Lock resource level wait word) idle same = absurd idle
idle_stays ask.Withdraw idle same = absurd idle
idle_stays (ask.Lower resource level) idle same = absurd idle
idle_stays (ask.Read page) idle same = absurd idle
idle_stays (ask.Write page cause) idle same = absurd idle
idle_stays ask.Least idle same = absurd idle
