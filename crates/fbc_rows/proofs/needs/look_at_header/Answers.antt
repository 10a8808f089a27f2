-- A header that stands elsewhere is damaged.
use Rattle.fbc_rows.proofs.Damaged.{header-damages}
use Rattle.fbc_rows.proofs.needs.look_at_header.Goals as goal

pub returns-clause-damages : goal.returns-clause-damages
returns-clause-damages c = λ relation. header-damages c.args.desk.now c.look_at.new.desk relation c.look_at.result c.look_at.ensures.held c.look_at.ensures.same
