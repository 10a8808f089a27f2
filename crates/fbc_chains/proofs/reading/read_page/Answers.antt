-- The read at the page that the slot named.
use Rattle.std.proofs.Common.{refl, sym, subst}
use Rattle.fbc_chains.specs.declared.parts.ReadPart.TheVariants as parts
use Rattle.fbc_chains.specs.Pages.{IsThere}
use Rattle.fbc_chains.specs.Showing.{Showing}
use Rattle.fbc_chains.proofs.Ways.{comes-here}
use Rattle.fbc_chains.proofs.reading.read_page.Goals as goal

pub judge_page-requires-clause-there : goal.judge_page-requires-clause-there
judge_page-requires-clause-there c = subst (λ (s : Showing). IsThere s c.args.page) (sym c.in-Here.ensures.same) c.in-Here.ensures.held

pub returns-in-Miss-clause-comes : goal.returns-in-Miss-clause-comes
returns-in-Miss-clause-comes c = comes-here _ _ _ (parts.Page c.args.page) _ _ refl c.in-Miss.ensures.held

pub returns-in-Damaged-clause-comes : goal.returns-in-Damaged-clause-comes
returns-in-Damaged-clause-comes c = comes-here _ _ _ (parts.Page c.args.page) _ _ refl c.in-Damaged.ensures.held
