use Rattle.fbc_region_tests.proofs.Going.{alive_come, gone_then, next_may_come, still_gone}
use Rattle.fbc_region_tests.proofs.owner_tests.come_and_die.Goals as goal

pub perform-requires-clause-ask : goal.perform-requires-clause-ask
perform-requires-clause-ask c =
    next_may_come _ _ c.reserve.new.self.journal c.args.owners c.enter.result c.enter.ensures
    (still_gone c.args.fixture.now.region.journal c.reserve.new.self.journal c.args.owners c.reserve.ensures.journal c.requires.gone) c.requires.few

pub die-requires : goal.die-requires
die-requires c =
    alive_come c.reserve.new.self.journal c.perform.new.self.journal _ c.perform.result c.enter.result c.enter.ensures c.perform.ensures.step

pub returns : goal.returns
returns c =
    gone_then c.reserve.new.self.journal c.perform.new.self.journal c.die.new.self.journal c.args.owners c.perform.result c.enter.result c.enter.ensures
    (still_gone c.args.fixture.now.region.journal c.reserve.new.self.journal c.args.owners c.reserve.ensures.journal c.requires.gone) c.perform.ensures.step c.die.ensures.died
