-- A page that stands elsewhere is damaged.
use Rattle.fbc_rows.proofs.gathering.find_page.Goals as goal

pub returns-in-Damaged-clause-damages : goal.returns-in-Damaged-clause-damages
returns-in-Damaged-clause-damages c = λ relation. c.in-Damaged.ensures.damages relation
