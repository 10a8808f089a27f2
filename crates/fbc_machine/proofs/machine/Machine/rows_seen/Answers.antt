use Rattle.std.proofs.Common.{refl}
use Rattle.fbc_kinds.specs.Chain.{see}
use Rattle.fbc_kinds.specs.Machine.{is_held, standing_versions}
use Rattle.fbc_machine.specs.Shown.{shown}
use Rattle.fbc_machine.proofs.Scanning.{goes, finishes, unseen}
use Rattle.fbc_machine.proofs.machine.Machine.rows_seen.Goals as goal

pub loop-row-preserved : goal.loop-row-preserved
loop-row-preserved c =
    rw (c.from-from.ensures, c.in_ok-add_row.ensures)
    (goes (λ row. see (standing_versions (shown c.args.self.now) c.args.relation row) (is_held c.args.snapshot.now)) c.loop-row.from c.loop-row.rows.items c.loop-row.invariant
    c.in-Some.row c.in-Some.ensures.0 (λ r le lt. unseen (shown c.args.self.now) c.args.relation r (is_held c.args.snapshot.now) (c.in-Some.ensures.1 r le lt)) _ refl)

pub returns : goal.returns
returns c =
    finishes (λ row. see (standing_versions (shown c.args.self.now) c.args.relation row) (is_held c.args.snapshot.now)) c.loop-row.from c.loop-row.rows.items c.loop-row.invariant
    (λ r le. unseen (shown c.args.self.now) c.args.relation r (is_held c.args.snapshot.now) (c.in_default.ensures r le))
