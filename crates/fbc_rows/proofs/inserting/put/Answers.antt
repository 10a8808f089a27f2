-- The row is put, and the place moves; or nothing moves.
use Rattle.std.proofs.Common.{ℕ, sym, subst}
use Rattle.fbc_rows.specs.Inserting.{InsertComesTo}
use Rattle.fbc_rows.proofs.Steps.{puts-come, puts-leave}
use Rattle.fbc_rows.proofs.Written.{put-writes}
use Rattle.fbc_rows.proofs.inserting.put.Goals as goal

pub returns-in_ok-step-in-Put-clause-comes : goal.returns-in_ok-step-in-Put-clause-comes
returns-in_ok-step-in-Put-clause-comes c =
    subst (λ (place : ℕ). InsertComesTo c.args.desk.now c.args.relation c.args.number c.args.value c.args.place.now place c.put_row.new.desk c.in_ok-step-in-Put.step) (sym c.place_after.ensures)
    (puts-come c.args.desk.now c.args.relation c.args.number c.args.value c.in-Put.page c.in-Put.sequence c.in-Put.cell c.args.place.now c.put_row.new.desk c.in_ok-step-in-Put.step c.in_ok-step-in-Put.ensures.puts)

pub returns-in_ok-step-in-Put-clause-leaves : goal.returns-in_ok-step-in-Put-clause-leaves
returns-in_ok-step-in-Put-clause-leaves c =
    puts-leave c.args.desk.now c.args.relation c.args.number c.args.value c.in-Put.page c.in-Put.sequence c.in-Put.cell c.put_row.new.desk c.args.part.now c.in_ok-step-in-Put.step c.in_ok-step-in-Put.ensures.puts

pub returns-in_ok-step-in-Put-clause-writes : goal.returns-in_ok-step-in-Put-clause-writes
returns-in_ok-step-in-Put-clause-writes c =
    put-writes c.args.desk.now c.args.relation c.args.number c.args.value c.in-Put.page c.in-Put.sequence c.in-Put.cell c.put_row.new.desk c.in_ok-step-in-Put.step c.in_ok-step-in-Put.ensures.puts
