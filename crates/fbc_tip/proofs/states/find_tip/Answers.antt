-- The header is there, or damaged, after it was looked at too; and it names a page for the number, or none.
use Rattle.std.proofs.Common.{◌≤◌, ◌/◌, refl, arith}
use Rattle.fbc_cache.specs.Readers.{place}
use Rattle.fbc_tip.specs.Inventories.{reading}
use Rattle.fbc_tip.proofs.Tips.{named, unnamed}
use Rattle.fbc_tip.proofs.Uses.{looked-damaged, looked-here}
use Rattle.fbc_tip.proofs.states.find_tip.Goals as goal

pub returns-in-Damaged-clause-finds : goal.returns-in-Damaged-clause-finds
returns-in-Damaged-clause-finds c =
    looked-damaged c.args.desk.now c.look_as.new.self (reading 0) c.reading.result (place 1 0 0) (place 1 0 0) c.reading.ensures refl c.in-Damaged.page c.in-Damaged.rule c.in-Damaged.ensures.after c.in-Damaged.ensures.held

pub returns-then-sequence-tip_count-clause-finds : goal.returns-then-sequence-tip_count-clause-finds
returns-then-sequence-tip_count-clause-finds c =
    named c.look_as.new.self c.args.number c.tip_numbers.result c.tip_count.result c.cache.result.now
    (looked-here c.args.desk.now c.look_as.new.self (reading 0) c.reading.result (place 1 0 0) (place 1 0 0) c.reading.ensures refl c.in-Here.ensures.after c.in-Here.ensures.held)
    c.tip_numbers.ensures.numbers c.cache.ensures c.tip_count.ensures.count c.tip_page.result c.cache-then-sequence-tip_count.result.now c.cache-then-sequence-tip_count.ensures c.if-sequence-tip_count.true c.tip_page.ensures

pub returns-else-sequence-tip_count-clause-finds : goal.returns-else-sequence-tip_count-clause-finds
returns-else-sequence-tip_count-clause-finds c =
    let past : c.tip_count.result ≤ c.args.number / c.tip_numbers.result = omega (arith, c.if-sequence-tip_count.false) in
    unnamed c.look_as.new.self c.args.number c.tip_numbers.result c.tip_count.result c.cache.result.now
    (looked-here c.args.desk.now c.look_as.new.self (reading 0) c.reading.result (place 1 0 0) (place 1 0 0) c.reading.ensures refl c.in-Here.ensures.after c.in-Here.ensures.held)
    c.tip_numbers.ensures.numbers c.cache.ensures c.tip_count.ensures.count past
