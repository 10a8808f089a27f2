-- Pointer page by pointer page the search comes further, until one has an empty slot.
use Rattle.std.proofs.Common.{◌∙◌, Some, refl, subst}
use Rattle.fbc_desk.specs.Calls.{GoesOn}
use Rattle.fbc_desk.proofs.Goes.{goes_on}
use Rattle.fbc_chains.specs.Showing.{Showing, shown_by}
use Rattle.fbc_rows.specs.Gathering.{IsFull, LooksForEmpty}
use Rattle.fbc_rows.proofs.Ways.{finds-there, full-more, none-full}
use Rattle.fbc_rows.proofs.gathering.find_empty.Goals as goal

pub loop-pointer-init : goal.loop-pointer-init
loop-pointer-init c = (none-full _ _ _, refl, GoesOn.stays _)

pub loop-pointer-preserved : goal.loop-pointer-preserved
loop-pointer-preserved c = (
  full-more (shown_by c.args.desk.now.cache) c.args.relation c.args.pointer.now c.loop-pointer.pointer c.loop-pointer.invariant.0
      (subst (λ (u : Showing). IsFull u c.args.relation c.loop-pointer.pointer) c.loop-pointer.invariant.1 c.in_default.ensures.looks),
  c.look_for_empty.ensures.same ∙ c.loop-pointer.invariant.1,
  goes_on _ _ _ c.loop-pointer.invariant.2 c.look_for_empty.ensures.goes,
)

pub returns-in-Some-clause-finds : goal.returns-in-Some-clause-finds
returns-in-Some-clause-finds c =
    finds-there (shown_by c.args.desk.now.cache) c.args.relation c.loop-pointer.pointer c.in-Some.found
    (subst (λ (u : Showing). LooksForEmpty u c.args.relation c.loop-pointer.pointer (Some c.in-Some.found)) c.loop-pointer.invariant.1 c.in-Some.ensures.looks)

pub returns-in-Some-clause-same : goal.returns-in-Some-clause-same
returns-in-Some-clause-same c = c.look_for_empty.ensures.same ∙ c.loop-pointer.invariant.1

pub returns-in-Some-clause-goes : goal.returns-in-Some-clause-goes
returns-in-Some-clause-goes c = goes_on _ _ _ c.loop-pointer.invariant.2 c.look_for_empty.ensures.goes
