use Rattle.std.proofs.Common.{◌≡◌, ◌*◌, true, false, filter, refl, sym, ap, ◌∙◌, arith}
use Rattle.std.specs.List.{range_with_len}
use Rattle.std.proofs.lemmas.List.Kept.{IsStrictlyIncreasing-filter}
use Rattle.fbc_kinds.specs.Limits.{inventory_bits}
use Rattle.fbc_validator.specs.Lost.{is_lost_by}
use Rattle.fbc_validator.proofs.LostPages.{pages_lost}
use Rattle.fbc_validator.proofs.Places.{passing_step, range_rises}
use Rattle.fbc_validator.proofs.lost.lost_pages.Goals as goal
use Rattle.fbc_validator.proofs.lost.lost_pages.Goals.{then-is_lost+in_ok-push, else-is_lost}

pub loop-page-preserved : goal.loop-page-preserved
loop-page-preserved c =
    let test = is_lost_by c.args.tally.now c.args.header.now in
    elim c.if-is_lost.branch [
      | then-is_lost+in_ok-push w ↦
          passing_step test c.loop-page.page c.loop-page.lost.items c.if-is_lost.lost.items true (sym c.is_lost.ensures ∙ w.if-is_lost.true) c.loop-page.invariant
          (rw w.lost-is w.in_ok-push.ensures.items)
      | else-is_lost w ↦
          passing_step test c.loop-page.page c.loop-page.lost.items c.if-is_lost.lost.items false (sym c.is_lost.ensures ∙ w.if-is_lost.false) c.loop-page.invariant (rw w.lost-is refl)
    ]

pub returns-clause-rise : goal.returns-clause-rise
returns-clause-rise c =
    let test = is_lost_by c.args.tally.now c.args.header.now in
    let all : c.new.result ≡ filter test (range_with_len 0 c.loop-page.page) = c.new.ensures ∙ c.loop-page.invariant in
    rw all (IsStrictlyIncreasing-filter test (range_with_len 0 c.loop-page.page) (range_rises 0 c.loop-page.page))

pub returns-clause-pages : goal.returns-clause-pages
returns-clause-pages c shape bytes view shown is kept sound =
    let h = c.args.header.now in
    let test = is_lost_by c.args.tally.now h in
    let last : c.loop-page.page ≡ c.from.result * inventory_bits h.size = omega arith in
    let end : c.loop-page.page ≡ h.inventories * inventory_bits h.size = last ∙ ap (λ n. n * inventory_bits h.size) c.from.ensures in
    pages_lost shape bytes view shown sound h is c.requires.size c.args.tally.now kept c.new.result
    (c.new.ensures ∙ c.loop-page.invariant ∙ ap (λ n. filter test (range_with_len 0 n)) end)
