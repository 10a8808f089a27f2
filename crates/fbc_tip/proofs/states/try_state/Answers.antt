-- What the header named stays while the page is looked at.
use Rattle.std.proofs.Common.{subst, sym}
use Rattle.fbc_desk.proofs.Goes.{goes_on}
use Rattle.fbc_tip.specs.declared.states.StatePart.{StatePart}
use Rattle.fbc_tip.specs.declared.states.StatePart.TheVariants as parts
use Rattle.fbc_tip.specs.Inventories.{reading}
use Rattle.fbc_tip.specs.States.{GoesFrom, last_look}
use Rattle.fbc_tip.specs.Using.{OnlyUses}
use Rattle.fbc_tip.proofs.Tips.{named-stays}
use Rattle.fbc_tip.proofs.Uses.{uses-looking}
use Rattle.fbc_tip.proofs.states.try_state.Goals as goal

pub returns-in-Ok-clause-found : goal.returns-in-Ok-clause-found
returns-in-Ok-clause-found c =
    let uses : OnlyUses c.find_tip.new.desk c.look_state-in-Ok.new.desk = subst (OnlyUses c.find_tip.new.desk) (sym c.look_state-in-Ok.ensures.after) (uses-looking c.find_tip.new.desk (reading c.in-Ok.page) (last_look c.look_state-in-Ok.result)) in
    subst (λ (p : StatePart). GoesFrom c.look_state-in-Ok.new.desk c.args.number p (parts.Tip c.in-Ok.page)) (sym c.in-Header.is)
    (named-stays c.find_tip.new.desk c.look_state-in-Ok.new.desk uses c.args.number c.in-Ok.page c.in-Ok.ensures.finds)

pub returns-in-Ok-clause-goes : goal.returns-in-Ok-clause-goes
returns-in-Ok-clause-goes c = goes_on c.args.desk.now c.find_tip.new.desk c.look_state-in-Ok.new.desk c.find_tip.ensures.goes c.look_state-in-Ok.ensures.goes
