use Rattle.std.proofs.Common.{ap, ◌∙◌, arith}
use Rattle.std.proofs.lemmas.List.{length-set}
use Rattle.fbc_kinds.specs.HeaderSpelling.{entry_at, name_in}
use Rattle.fbc_pages.proofs.Reading.{places_more}
use Rattle.fbc_pages.proofs.recognition.shown_names.Goals as goal

pub loop-i-preserved : goal.loop-i-preserved
loop-i-preserved c =
    let is = c.new.ensures ∙ (c.name_in.ensures ∙ ap name_in c.entry_at.ensures.entry) in
    record {
      count = length-set c.loop-i.names c.loop-i.i c.new.result ∙ c.loop-i.invariant.count;
      names = places_more (λ j. name_in (entry_at c.args.first.now j)) c.loop-i.names c.new.result c.loop-i.i (omega (arith, c.loop-i.invariant.count)) is c.loop-i.invariant.names;
    }
