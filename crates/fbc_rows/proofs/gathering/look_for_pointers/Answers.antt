-- A header that stands elsewhere is damaged.
use Rattle.fbc_rows.proofs.gathering.look_for_pointers.Goals as goal

pub returns-in-Damaged-clause-damages : goal.returns-in-Damaged-clause-damages
returns-in-Damaged-clause-damages c = c.in-Damaged.ensures.damages c.args.relation
