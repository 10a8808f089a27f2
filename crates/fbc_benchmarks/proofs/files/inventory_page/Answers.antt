use Rattle.std.proofs.Common.{◌≡◌, ◌<◌, ◌%◌, ◌∙◌, arith, subst}
use Rattle.fbc_kinds.specs.Limits.{inventory_bits}
use Rattle.fbc_benchmarks.proofs.files.inventory_page.Goals as goal

pub returns : goal.returns
returns c =
    let covered = inventory_bits c.args.plan.now.shape.size in
    let taken = c.min-taken.result in
    let same : c.covered-covered.result ≡ covered = c.covered-covered.ensures.value in
    let inside : c.args.page % covered < taken = subst (λ n. c.args.page % n < taken) same (omega (arith, c.if-page-covered.false)) in
    record {
      page = omega (arith, c.ranges.page.fits);
      sequence = omega (arith, c.ranges.sequence.fits);
      count = c.in_ok-taken_first.ensures.count ∙ omega (arith, same);
      own = λ _. c.in_ok-taken_first.ensures.first _ inside;
      header = λ _. c.in_ok-taken_first.ensures.first 0 (omega (arith, inside));
    }
