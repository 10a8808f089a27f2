-- Edit by edit the page comes further.
use Rattle.std.proofs.Common.{sym, subst}
use Rattle.fbc_desk.specs.declared.edits.Made.{Made}
use Rattle.fbc_desk.proofs.Goes.{goes_on}
use Rattle.fbc_space.specs.declared.taking_pages.Taking.{Taking}
use Rattle.fbc_space.specs.TakingPages.{DueComesTo}
use Rattle.fbc_space.proofs.Staged.{HasTaken, takes-first, takes-further}
use Rattle.fbc_space.proofs.taking_pages.try_take.Goals as goal

pub loop-desk-init : goal.loop-desk-init
loop-desk-init c = takes-first c.args.page c.args.relation c.args.sequence c.args.stage.now c.args.desk.now

pub loop-desk-preserved : goal.loop-desk-preserved
loop-desk-preserved c =
    subst (λ (to : Taking). HasTaken c.args.page c.args.relation c.args.sequence c.args.stage.now c.args.desk.now to c.edit_due.new.desk) (sym c.next.ensures)
    (takes-further c.args.page c.args.relation c.args.sequence c.args.stage.now c.args.desk.now c.loop-desk.stage c.loop-desk.desk c.edit_due.new.desk c.loop-desk.invariant
    (subst (λ (outcome : Made). DueComesTo c.args.page c.args.relation c.args.sequence c.loop-desk.stage c.loop-desk.desk c.edit_due.new.desk outcome) c.in-Done.is c.in_ok-edit_due.ensures.made)
    c.edit_due.ensures.goes)

pub returns-in-WriteFirst-clause-goes : goal.returns-in-WriteFirst-clause-goes
returns-in-WriteFirst-clause-goes c = goes_on c.args.desk.now c.loop-desk.desk c.edit_due.new.desk c.loop-desk.invariant.goes c.edit_due.ensures.goes
