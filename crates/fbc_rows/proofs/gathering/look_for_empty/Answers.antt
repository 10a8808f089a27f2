-- A pointer page without an empty slot is full.
use Rattle.std.proofs.Common.{None, subst}
use Rattle.fbc_chains.specs.Showing.{Showing}
use Rattle.fbc_rows.specs.Gathering.{FirstEmpty}
use Rattle.fbc_rows.proofs.gathering.look_for_empty.Goals as goal

pub returns-in-None-clause-looks : goal.returns-in-None-clause-looks
returns-in-None-clause-looks c = record {
  here = c.in-Here.ensures.held;
  full = subst (λ (u : Showing). FirstEmpty u c.args.relation c.args.pointer None) c.look_at_pointer.ensures.same c.in-None.ensures;
}
