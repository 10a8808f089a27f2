use Rattle.std.proofs.Common.{◌≡◌, ◌==◌, true, false, refl, sym, ◌∙◌, arith}
use Rattle.fbc_links.specs.Chains.{has_below, has_fault, is_same_place}
use Rattle.fbc_links.proofs.MarkedCells.{mark_by_page, namer_by_index}
use Rattle.fbc_links.proofs.Noting.{next_again, next_first, noted_again, noted_first, put, not_put}
use Rattle.fbc_links.proofs.chains.Chains.note_good.Goals as goal

pub returns-in_ok-insert-in-Some-clause-next : goal.returns-in_ok-insert-in-Some-clause-next
returns-in_ok-insert-in-Some-clause-next c view all marks =
    next_again view all c.args.self.now marks c.args.from c.args.to c.in-Some.first (namer_by_index c.args.self.now c.args.to c.args.back.index c.requires.index ∙ sym c.get.ensures ∙ c.in-Some.is) c.args.back.version

pub returns-else-ne-clause-next : goal.returns-else-ne-clause-next
returns-else-ne-clause-next c view all marks =
    next_again view all c.args.self.now marks c.args.from c.args.to c.in-Some.first (namer_by_index c.args.self.now c.args.to c.args.back.index c.requires.index ∙ sym c.get.ensures ∙ c.in-Some.is) c.args.back.version

pub returns-in_ok-insert-in-None-clause-next : goal.returns-in_ok-insert-in-None-clause-next
returns-in_ok-insert-in-None-clause-next c view all marks = next_first view all c.args.self.now marks c.args.from c.args.to (namer_by_index c.args.self.now c.args.to c.args.back.index c.requires.index ∙ sym c.get.ensures ∙ c.in-None.is) c.args.back.version

pub returns-else-not-is_committed-clause-next : goal.returns-else-not-is_committed-clause-next
returns-else-not-is_committed-clause-next c view all marks = next_first view all c.args.self.now marks c.args.from c.args.to (namer_by_index c.args.self.now c.args.to c.args.back.index c.requires.index ∙ sym c.get.ensures ∙ c.in-None.is) c.args.back.version

pub returns-in_ok-insert-in-Some-clause-marks : goal.returns-in_ok-insert-in-Some-clause-marks
returns-in_ok-insert-in-Some-clause-marks c view all walked stands marks =
    let old = c.args.self.now in
    let from = c.args.from in
    let differ : is_same_place c.in-Some.first from ≡ false = grind arith in
    noted_again view all old marks from c.args.to c.in-Some.first (namer_by_index c.args.self.now c.args.to c.args.back.index c.requires.index ∙ sym c.get.ensures ∙ c.in-Some.is) false differ
    (record { walked = old.walked; namers = old.namers; faults = c.insert.new.self; belows = old.belows })
    (λ page cell. refl)
    (λ page. c.in_ok-insert-in-Some.ensures.updates.0 page ∙ put (has_fault old page) (from.page == page))
    (λ page. refl)

pub returns-else-ne-clause-marks : goal.returns-else-ne-clause-marks
returns-else-ne-clause-marks c view all walked stands marks =
    let old = c.args.self.now in
    let from = c.args.from in
    let same : is_same_place c.in-Some.first from ≡ true = grind arith in
    noted_again view all old marks from c.args.to c.in-Some.first (namer_by_index c.args.self.now c.args.to c.args.back.index c.requires.index ∙ sym c.get.ensures ∙ c.in-Some.is) true same old
    (λ page cell. refl)
    (λ page. not_put (has_fault old page) (from.page == page))
    (λ page. refl)

pub returns-in_ok-insert-in-None-clause-marks : goal.returns-in_ok-insert-in-None-clause-marks
returns-in_ok-insert-in-None-clause-marks c view all walked stands marks =
    let old = c.args.self.now in
    let to = c.args.to in
    noted_first view all old marks c.args.from to (namer_by_index c.args.self.now c.args.to c.args.back.index c.requires.index ∙ sym c.get.ensures ∙ c.in-None.is) c.args.back.version false stands
    (grind (arith, c.is_committed.ensures view walked))
    (record { walked = old.walked; namers = c.set.new.self; faults = old.faults; belows = c.insert-then-not-is_committed.new.self })
    (mark_by_page old to c.args.back.index c.requires.index c.args.from c.set.new.self c.in_ok-set-in-None.ensures)
    (λ page. refl)
    (λ page. c.in_ok-insert-in-None.ensures.updates.0 page ∙ put (has_below old page) (to.page == page))

pub returns-else-not-is_committed-clause-marks : goal.returns-else-not-is_committed-clause-marks
returns-else-not-is_committed-clause-marks c view all walked stands marks =
    let old = c.args.self.now in
    let to = c.args.to in
    noted_first view all old marks c.args.from to (namer_by_index c.args.self.now c.args.to c.args.back.index c.requires.index ∙ sym c.get.ensures ∙ c.in-None.is) c.args.back.version true stands
    (grind (arith, c.is_committed.ensures view walked))
    (record { walked = old.walked; namers = c.set.new.self; faults = old.faults; belows = old.belows })
    (mark_by_page old to c.args.back.index c.requires.index c.args.from c.set.new.self c.in_ok-set-in-None.ensures)
    (λ page. refl)
    (λ page. not_put (has_below old page) (to.page == page))
