use Rattle.std.proofs.Common.{ap, ◌∙◌, arith}
use Rattle.std.proofs.lemmas.List.{length-set}
use Rattle.fbc_kinds.specs.HeaderSpelling.{entry_at, value_length_in}
use Rattle.fbc_pages.proofs.Reading.{places_more}
use Rattle.fbc_pages.proofs.recognition.shown_lengths.Goals as goal

pub loop-i-preserved : goal.loop-i-preserved
loop-i-preserved c =
    let is = c.read_u16.ensures ∙ ap value_length_in c.entry_at.ensures.entry in
    record {
      count = length-set c.loop-i.lengths c.loop-i.i c.read_u16.result ∙ c.loop-i.invariant.count;
      lengths = places_more (λ j. value_length_in (entry_at c.args.first.now j)) c.loop-i.lengths c.read_u16.result c.loop-i.i (omega (arith, c.loop-i.invariant.count)) is c.loop-i.invariant.lengths;
    }
