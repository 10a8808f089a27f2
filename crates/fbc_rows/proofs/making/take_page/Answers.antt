-- A write is asked where the page is to be taken or formatted.
use Rattle.std.proofs.Common.{subst}
use Rattle.fbc_space.specs.declared.taking_pages.TakeStep.{TakeStep}
use Rattle.fbc_space.specs.TakingPages.{TakesTo}
use Rattle.fbc_rows.proofs.Written.{take-writes}
use Rattle.fbc_rows.proofs.making.take_page.Goals as goal

pub returns-in-Must-clause-writes : goal.returns-in-Must-clause-writes
returns-in-Must-clause-writes c =
    take-writes c.args.new.page c.args.relation c.args.new.sequence c.args.from c.try_take-taken.new.stage c.args.desk.now c.try_take-taken.new.desk c.in-Must.ask
    (subst (λ (s : TakeStep). TakesTo c.args.new.page c.args.relation c.args.new.sequence c.args.from c.try_take-taken.new.stage c.args.desk.now c.try_take-taken.new.desk s) c.in-Must.is c.in_ok-taken.ensures.taken)
