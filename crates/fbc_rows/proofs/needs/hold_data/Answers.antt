-- What a hold comes to, told by the copies.
use Rattle.std.proofs.Common.{◌≡◌, Bool, subst}
use Rattle.fbc_cache.specs.declared.needs.Need.{Need}
use Rattle.fbc_desk.specs.Holds.{Holds, after_hold}
use Rattle.fbc_chains.proofs.Showing.{held-shows}
use Rattle.fbc_rows.specs.Needs.{to_change}
use Rattle.fbc_rows.proofs.Damaged.{data-damages}
use Rattle.fbc_rows.proofs.Missed.{hold-misses}
use Rattle.fbc_rows.proofs.needs.hold_data.Goals as goal

pub returns-clause-held : goal.returns-clause-held
returns-clause-held c =
    subst (λ (w : Bool). Holds c.args.desk.now (to_change c.args.page w) c.hold.result) c.may_wait_for-wait.ensures
    (subst (λ (n : Need). Holds c.args.desk.now n c.hold.result) c.to_change.ensures c.hold.ensures.held)

pub returns-clause-after : goal.returns-clause-after
returns-clause-after c =
    subst (λ (w : Bool). c.hold.new.self ≡ after_hold c.args.desk.now (to_change c.args.page w) c.hold.result) c.may_wait_for-wait.ensures
    (subst (λ (n : Need). c.hold.new.self ≡ after_hold c.args.desk.now n c.hold.result) c.to_change.ensures c.hold.ensures.after)

pub returns-clause-same : goal.returns-clause-same
returns-clause-same c = held-shows c.args.desk.now c.hold.new.self c.to_change.result c.hold.result c.hold.ensures.after

pub returns-clause-misses : goal.returns-clause-misses
returns-clause-misses c = hold-misses c.args.desk.now c.hold.new.self c.to_change.result c.hold.result c.hold.ensures.held c.hold.ensures.after

pub returns-clause-damages : goal.returns-clause-damages
returns-clause-damages c = λ relation.
    data-damages c.args.desk.now c.hold.new.self relation c.to_change.result c.hold.result c.hold.ensures.held (held-shows c.args.desk.now c.hold.new.self c.to_change.result c.hold.result c.hold.ensures.after)
