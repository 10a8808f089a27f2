-- The slot names the page still.
use Rattle.std.proofs.Common.{ℕ, sym, subst}
use Rattle.fbc_chains.specs.Showing.{Showing, shown_by}
use Rattle.fbc_rows.specs.Slots.{Names}
use Rattle.std.proofs.Common.{inl}
use Rattle.fbc_rows.proofs.searching.look_at_name.Goals as goal

pub look_at_named-requires : goal.look_at_named-requires
look_at_named-requires c = record {
  names =
      subst (λ (u : Showing). Names u c.args.relation c.args.sequence c.args.page) (sym c.look_at_slot.ensures.same)
      (subst (λ (n : ℕ). Names (shown_by c.args.desk.now.cache) c.args.relation c.args.sequence n) c.if-named-page.true c.in-Names.ensures.slot);
}

pub returns-in-Damaged-clause-damages : goal.returns-in-Damaged-clause-damages
returns-in-Damaged-clause-damages c = inl c.in-Damaged.ensures.damages
