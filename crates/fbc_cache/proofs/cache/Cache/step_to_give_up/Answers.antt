-- What gives a page up is due where the page may be given up.
use Rattle.std.proofs.Common.{◌≡◌, inl, inr, refl, true, ap}
use Rattle.fbc_world.specs.declared.asks.Ask.TheVariants as ask
use Rattle.fbc_cache.proofs.GivesUp.{due-giving}
use Rattle.fbc_cache.proofs.cache.Cache.step_to_give_up.Goals as goal

pub returns-then-is_unsettled-clause-due : goal.returns-then-is_unsettled-clause-due
returns-then-is_unsettled-clause-due c may =
    due-giving c.args.self.now c.holds.ensures.cache c.args.page c.args.cause c.args.level _ may
    (inl (c.is_unsettled.ensures.0 c.if-is_unsettled.true, record { next = _; is_next = c.next_to_write.ensures; is_write = refl }))

pub returns-else-is_unsettled-clause-step : goal.returns-else-is_unsettled-clause-step
returns-else-is_unsettled-clause-step c =
    inr (λ unsettled. absurd (let yes : c.is_unsettled.result ≡ true = c.is_unsettled.ensures.1 unsettled in cc c.if-is_unsettled.false), ap (λ r. ask.Lower r c.args.level) c.page.ensures)

pub returns-else-is_unsettled-clause-due : goal.returns-else-is_unsettled-clause-due
returns-else-is_unsettled-clause-due c may =
    due-giving c.args.self.now c.holds.ensures.cache c.args.page c.args.cause c.args.level _ may
    (inr (λ unsettled. absurd (let yes : c.is_unsettled.result ≡ true = c.is_unsettled.ensures.1 unsettled in cc c.if-is_unsettled.false), ap (λ r. ask.Lower r c.args.level) c.page.ensures))
