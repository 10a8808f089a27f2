use Rattle.std.proofs.Common.{◌+◌, ◌*◌, length, ap, ◌∙◌}
use Rattle.std.proofs.lemmas.List.{length_push}
use Rattle.fbc_kinds.specs.Head.{number_at}
use Rattle.fbc_pages.proofs.Reading.{numbers_more}
use Rattle.fbc_pages.proofs.numbers.read_numbers.Goals as goal

pub loop-i-preserved : goal.loop-i-preserved
loop-i-preserved c =
    let added = c.in_ok-push.ensures.items in
    let old = c.loop-i.numbers.items in
    record {
      count = ap length added ∙ (length_push old c.read_u32.result ∙ ap (λ n. n + 1) c.loop-i.invariant.count);
      numbers = rw added (numbers_more (λ j. number_at (c.args.from + 4 * j) (c.args.from + 4 * j + 4) c.args.bytes.now) old c.read_u32.result c.loop-i.i c.loop-i.invariant.count c.read_u32.ensures c.loop-i.invariant.numbers);
    }
