use Rattle.std.proofs.Common.{◌+◌, suc, arith}
use Rattle.fbc_step_benchmarks.proofs.Ready.{fewer_steps}
use Rattle.fbc_step_benchmarks.proofs.steps.enter_both.Goals as goal

pub perform-first-requires-clause-reserved : goal.perform-first-requires-clause-reserved
perform-first-requires-clause-reserved c = fewer_steps c.args.region.now.journal (c.args.left + 2) 1 (omega arith) c.requires.reserved

pub perform-second-requires-clause-reserved : goal.perform-second-requires-clause-reserved
perform-second-requires-clause-reserved c =
    let more = fewer_steps c.args.region.now.journal (c.args.left + 2) (suc (suc c.args.left)) (omega arith) c.requires.reserved in
    fewer_steps c.perform-first.new.self.journal (suc c.args.left) 1 (omega arith) (c.perform-first.ensures.reserved (suc c.args.left) more)

pub returns-clause-reserved : goal.returns-clause-reserved
returns-clause-reserved c =
    let more = fewer_steps c.args.region.now.journal (c.args.left + 2) (suc (suc c.args.left)) (omega arith) c.requires.reserved in
    c.perform-second.ensures.reserved c.args.left (c.perform-first.ensures.reserved (suc c.args.left) more)
