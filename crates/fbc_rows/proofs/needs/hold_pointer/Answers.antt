-- A page that is missed may not be used yet.
use Rattle.std.proofs.Common.{◌∙◌, ap}
use Rattle.fbc_cache.specs.declared.needs.Need.{Need}
use Rattle.fbc_rows.proofs.Damaged.{hold-damages}
use Rattle.fbc_rows.proofs.Missed.{hold-as-misses}
use Rattle.fbc_chains.proofs.Showing.{held-shows}
use Rattle.fbc_rows.proofs.needs.hold_pointer.Goals as goal

pub returns-clause-misses : goal.returns-clause-misses
returns-clause-misses c = hold-as-misses c.args.desk.now c.hold_as.new.self c.to_change.result c.pointer_place.result c.hold_as.result c.hold_as.ensures.held c.hold_as.ensures.after

pub returns-clause-damages : goal.returns-clause-damages
returns-clause-damages c =
    hold-damages c.args.desk.now c.hold_as.new.self c.args.relation c.args.pointer c.to_change.result c.pointer_place.result c.hold_as.result
    (ap (λ (n : Need). n.page) c.to_change.ensures ∙ c.pointer_at-page.ensures) c.pointer_place.ensures c.hold_as.ensures.held c.hold_as.ensures.after

pub returns-clause-same : goal.returns-clause-same
returns-clause-same c = held-shows c.args.desk.now c.hold_as.new.self c.to_change.result c.hold_as.result c.hold_as.ensures.after
