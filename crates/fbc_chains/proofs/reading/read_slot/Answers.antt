-- The read at the slot.
use Rattle.std.proofs.Common.{ℕ, refl, subst}
use Rattle.fbc_kinds.specs.Chain.{holds}
use Rattle.fbc_chains.specs.declared.parts.ReadPart.TheVariants as parts
use Rattle.fbc_chains.specs.Showing.{shown_by}
use Rattle.fbc_chains.specs.Slots.{Names}
use Rattle.fbc_chains.proofs.Ways.{comes-here, comes-on}
use Rattle.fbc_chains.proofs.reading.read_slot.Goals as goal

pub returns-in-Names-eq0-clause-comes : goal.returns-in-Names-eq0-clause-comes
returns-in-Names-eq0-clause-comes c =
    comes-here _ _ _ parts.Slot _ _ refl
    (refl, subst (λ (n : ℕ). Names (shown_by c.args.desk.now.cache) c.args.at n) c.in-Names-eq0.page-test c.in-Names-eq0.ensures.slot)

pub returns-in-Names-clause-comes : goal.returns-in-Names-clause-comes
returns-in-Names-clause-comes c =
    comes-on (shown_by c.args.desk.now.cache) (shown_by c.look_at_slot.new.desk.cache) c.args.at (holds c.args.snapshot.now) parts.Slot (parts.Page c.in-Names.page)
    c.read_page.new.part c.read_page.result (c.in-Names.ensures.slot, c.in-Names.page-test.1) c.look_at_slot.ensures.same c.read_page.ensures.comes

pub returns-in-Miss-clause-comes : goal.returns-in-Miss-clause-comes
returns-in-Miss-clause-comes c = comes-here _ _ _ parts.Slot _ _ refl c.in-Miss.ensures.slot

pub returns-in-Damaged-clause-comes : goal.returns-in-Damaged-clause-comes
returns-in-Damaged-clause-comes c = comes-here _ _ _ parts.Slot _ _ refl c.in-Damaged.ensures.slot
