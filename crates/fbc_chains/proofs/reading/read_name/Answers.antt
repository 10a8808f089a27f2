-- The read at the slot once more.
use Rattle.std.proofs.Common.{ℕ, subst, refl, inl, inr}
use Rattle.fbc_chains.specs.declared.parts.ReadPart.TheVariants as parts
use Rattle.fbc_chains.specs.Showing.{shown_by}
use Rattle.fbc_chains.specs.Slots.{Names}
use Rattle.fbc_chains.proofs.Ways.{comes-here}
use Rattle.fbc_chains.proofs.reading.read_name.Goals as goal

pub returns-then-named-page-clause-comes : goal.returns-then-named-page-clause-comes
returns-then-named-page-clause-comes c = λ seen.
    comes-here _ _ _ (parts.Named c.args.page c.args.rule) _ _ refl
    (inr (subst (λ (n : ℕ). Names (shown_by c.args.desk.now.cache) c.args.at n) c.if-named-page.true c.in-Names.ensures.slot, refl, refl))

pub returns-else-named-page-clause-comes : goal.returns-else-named-page-clause-comes
returns-else-named-page-clause-comes c = λ seen.
    comes-here _ _ _ (parts.Named c.args.page c.args.rule) _ _ refl (refl, record { named = c.in-Names.named; names = c.in-Names.ensures.slot; other = c.if-named-page.false })

pub returns-in-Miss-clause-comes : goal.returns-in-Miss-clause-comes
returns-in-Miss-clause-comes c = λ seen. comes-here _ _ _ (parts.Named c.args.page c.args.rule) _ _ refl c.in-Miss.ensures.slot

pub returns-in-Damaged-clause-comes : goal.returns-in-Damaged-clause-comes
returns-in-Damaged-clause-comes c = λ seen. comes-here _ _ _ (parts.Named c.args.page c.args.rule) _ _ refl (inl c.in-Damaged.ensures.slot)
