use Rattle.std.proofs.Common.{◌≡◌, false, subst}
use Rattle.fbc_levels.specs.declared.levels.Level.TheVariants as levels
use Rattle.fbc_lock_table.specs.declared.answers.Asked.TheVariants as asked
use Rattle.fbc_lock_table.specs.Effects.{after_ask}
use Rattle.fbc_region.specs.Shared.{locks_in}
use Rattle.fbc_step_benchmarks.proofs.Stepped.{locks_asked}
use Rattle.fbc_step_benchmarks.proofs.steps.take_page.Goals as goal

pub returns-clause-granted : goal.returns-clause-granted
returns-clause-granted c =
    subst (λ r. locks_in c.perform.new.self.journal ≡ after_ask (locks_in c.args.region.now.journal) c.args.owner r levels.Ex 0 asked.Granted) c.page_of.ensures
    (locks_asked c.args.region.now.journal c.perform.new.self.journal c.args.owner _ c.perform.result c.page_of.result levels.Ex false 0 c.requires.may.waits_for_nothing c.perform.ensures.step c.in-Granted.is)
