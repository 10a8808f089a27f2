use Rattle.std.proofs.Common.{◌==◌, refl, sym, ◌∙◌}
use Rattle.std.proofs.lemmas.Result.{on_ok_weaker}
use Rattle.fbc_kinds.proofs.Tests.{test_of_different}
use Rattle.fbc_links.specs.Chains.{has_fault}
use Rattle.fbc_links.proofs.LinkSteps.{good_back, no_back, no_next, none_back, marked_good, marked_bad}
use Rattle.fbc_links.proofs.Noting.{put}
use Rattle.fbc_links.proofs.chains.Chains.follow_link.Goals as goal

pub returns-in-Some-clause-marks : goal.returns-in-Some-clause-marks
returns-in-Some-clause-marks c =
    on_ok_weaker c.note_good.result
    (λ marked view all walked marks.
    let version = c.args.version in
    let to = c.back_place-to.result in
    let good = good_back view c.args.relation version.number to.page to.cell c.in-Some.back.version (sym (c.in-Some.ensures.back view walked)) in
    marked_good view all c.args.self.now marks c.args.relation c.args.place version (test_of_different version.back_page 0 c.if-version-eq0.false) c.note_good.new.self to
    (sym c.back_place-to.ensures.page) (sym c.back_place-to.ensures.cell) good.good
    (marked view all walked good.stands marks))
    c.note_good.ensures.marks

pub returns-in_ok-insert-in-None-clause-next : goal.returns-in_ok-insert-in-None-clause-next
returns-in_ok-insert-in-None-clause-next c view all walked marks =
    no_next view c.args.relation all c.args.version
    (none_back view c.args.relation c.args.version.number c.back_place-to.result c.args.version c.back_place-to.ensures.page c.back_place-to.ensures.cell (c.in-None.ensures.back view walked))

pub returns-in_ok-insert-in-None-clause-marks : goal.returns-in_ok-insert-in-None-clause-marks
returns-in_ok-insert-in-None-clause-marks c view all walked marks =
    let old = c.args.self.now in
    let version = c.args.version in
    let from = c.args.place in
    marked_bad view all old marks c.args.relation from version (test_of_different version.back_page 0 c.if-version-eq0.false)
    (record { walked = old.walked; namers = old.namers; faults = c.insert.new.self; belows = old.belows })
    (no_back view c.args.relation version.number version.back_page version.back_cell
    (none_back view c.args.relation version.number c.back_place-to.result version c.back_place-to.ensures.page c.back_place-to.ensures.cell (c.in-None.ensures.back view walked)))
    (λ page cell. refl)
    (λ page. c.in_ok-insert-in-None.ensures.updates.0 page ∙ put (has_fault old page) (from.page == page))
    (λ page. refl)
