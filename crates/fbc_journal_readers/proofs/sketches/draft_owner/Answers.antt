use Rattle.std.proofs.Common.{◌≡◌, ◌+◌, ◌∷◌, reverse, arith}
use Rattle.std.proofs.Common.{take}
use Rattle.std.proofs.lemmas.Grind.{common_steps}
use Rattle.fbc_world.specs.History.{none_landed}
use Rattle.fbc_world.specs.PageCell.{blank_file, cell_of}
use Rattle.fbc_journal_readers.proofs.SketchLaws.{IsSketch-step}
use Rattle.fbc_journal_readers.proofs.sketches.draft_owner.Goals as goal

pub loop-event-preserved : goal.loop-event-preserved
loop-event-preserved c =
    let one_more : reverse (take (c.loop-event.event-index + 1) c.args.events.now) ≡ c.event-item.result ∷ reverse (take c.loop-event.event-index c.args.events.now) = grind (arith, common_steps, c.event-item.is, c.loop-event-test.true) in
    rw (one_more, c.after-sketch.ensures)
    (IsSketch-step c.args.shape.now c.args.page (cell_of c.args.shape.now blank_file c.args.page (none_landed (reverse (take c.loop-event.event-index c.args.events.now)))) c.loop-event.sketch c.event-item.result c.loop-event.invariant)
