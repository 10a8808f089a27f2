-- The page of the number is there, or damaged, after it was looked at too.
use Rattle.std.proofs.Common.{◌∙◌, ap}
use Rattle.fbc_cache.specs.Cache.{CacheState}
use Rattle.fbc_cache.specs.Readers.{state_shown}
use Rattle.fbc_tip.proofs.Tips.{tip-damaged, tip-here}
use Rattle.fbc_tip.proofs.states.look_state.Goals as goal

pub returns-in-Here-clause-step : goal.returns-in-Here-clause-step
returns-in-Here-clause-step c = record {
  here = tip-here c.args.desk.now c.look_as.new.self c.reading.result c.tip_place.result c.args.page c.args.number c.tip_numbers.result c.reading.ensures c.tip_numbers.ensures.numbers c.tip_place.ensures c.in-Here.ensures.after c.in-Here.ensures.held;
  shows = c.state.ensures ∙ ap (λ (cache : CacheState). state_shown cache c.args.page c.args.number) c.cache.ensures;
}

pub returns-in-Damaged-clause-step : goal.returns-in-Damaged-clause-step
returns-in-Damaged-clause-step c =
    tip-damaged c.args.desk.now c.look_as.new.self c.reading.result c.tip_place.result c.args.page c.args.number c.tip_numbers.result c.reading.ensures c.tip_numbers.ensures.numbers c.tip_place.ensures c.in-Damaged.page c.in-Damaged.rule c.in-Damaged.ensures.after c.in-Damaged.ensures.held
