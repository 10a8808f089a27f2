-- Nothing is done; and the page is named still.
use Rattle.fbc_desk.specs.Calls.{stays}
use Rattle.std.proofs.Common.{inl, inr, refl, sym}
use Rattle.fbc_rows.specs.Damages.{IsDamaged}
use Rattle.fbc_rows.proofs.searching.look_at_named.Goals as goal

pub returns-in-Some-clause-goes : goal.returns-in-Some-clause-goes
returns-in-Some-clause-goes c = stays c.args.desk.now

pub returns-in-Some-judge-clause-goes : goal.returns-in-Some-judge-clause-goes
returns-in-Some-judge-clause-goes c = stays c.args.desk.now

pub returns-in-Some-clause-damages : goal.returns-in-Some-clause-damages
returns-in-Some-clause-damages c = inr (record { is_page = refl; was = c.in-Some.is; names = c.requires.names })

pub returns-in-Some-judge-clause-damages : goal.returns-in-Some-judge-clause-damages
returns-in-Some-judge-clause-damages c = inl (inl (IsDamaged.data_page c.args.sequence c.requires.names (sym c.in-Some-judge.ensures)))

pub returns-in-None-clause-damages : goal.returns-in-None-clause-damages
returns-in-None-clause-damages c = c.look_for_cell.ensures.damages c.args.broken
