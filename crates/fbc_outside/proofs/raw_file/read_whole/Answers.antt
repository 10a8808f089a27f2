use Rattle.std.proofs.Common.{rules}
use Rattle.fbc_outside.proofs.RawFileLemmas.{read_more, read_again, room_left}
use Rattle.fbc_outside.proofs.raw_file.read_whole.Goals.{in-Ok, in-Err}
use Rattle.fbc_outside.proofs.raw_file.read_whole.Goals as goal

pub loop-preserved : goal.loop-preserved
loop-preserved g c =
    let kept = c.loop.invariant in
    let room = room_left _ _ _ kept.within c.read_part.auto.into in
    elim c.match-read_part.branch [
      | in-Ok w ↦ record {
        file = search rules;
        room = search rules;
        within = search rules;
        front = rw (w.done-is) (read_more _ _ _ _ _ _ _ _ (g.met.F.RawFile.within c.args.file.now) c.ranges.at.fits c.saturating_add.ensures kept.within room kept.front (rw kept.file at w.in-Ok.ensures.answer));
      }
      | in-Err w ↦ record {
        file = search rules;
        room = search rules;
        within = search rules;
        front = rw (w.done-is) (read_again _ _ _ _ _ _ kept.within kept.front);
      }
    ]
