-- What a hold comes to, told by the copies.
use Rattle.fbc_chains.proofs.Pins.{holds-add}
use Rattle.fbc_chains.proofs.Pins.{held-used, hold-keeps}
use Rattle.fbc_chains.specs.Pages.{to_read}
use Rattle.fbc_desk.specs.Holds.{after_hold}
use Rattle.fbc_cache.specs.declared.needs.Need.{Need}
use Rattle.std.proofs.Common.{◌≡◌, Bool, ap, subst}
use Rattle.fbc_chains.proofs.Showing.{held-shows, holds-told}
use Rattle.fbc_chains.proofs.pages.hold_data.Goals as goal

pub returns-clause-held : goal.returns-clause-held
returns-clause-held c = holds-told c.args.desk.now c.args.page c.may_wait_for-wait.result c.to_read.result c.hold.result c.to_read.ensures c.holds.ensures.cache c.hold.ensures.held

pub returns-clause-same : goal.returns-clause-same
returns-clause-same c = held-shows c.args.desk.now c.hold.new.self c.to_read.result c.hold.result c.hold.ensures.after

pub returns-clause-after : goal.returns-clause-after
returns-clause-after c =
    subst (λ (w : Bool). c.hold.new.self ≡ after_hold c.args.desk.now (to_read c.args.page w) c.hold.result) c.may_wait_for-wait.ensures
    (subst (λ (n : Need). c.hold.new.self ≡ after_hold c.args.desk.now n c.hold.result) c.to_read.ensures c.hold.ensures.after)

pub returns-clause-used : goal.returns-clause-used
returns-clause-used c = λ here.
    held-used c.args.desk.now c.hold.new.self c.args.page c.to_read.result c.hold.result (ap (λ (n : Need). n.page) c.to_read.ensures) here c.hold.ensures.held c.hold.ensures.after

pub returns-clause-stays : goal.returns-clause-stays
returns-clause-stays c = hold-keeps c.args.desk.now c.hold.new.self c.to_read.result c.hold.result c.hold.ensures.after

pub returns-clause-more : goal.returns-clause-more
returns-clause-more c = holds-add c.args.desk.now c.hold.new.self c.args.page c.to_read.result c.hold.result (ap (λ (n : Need). n.page) c.to_read.ensures) c.hold.ensures.after
