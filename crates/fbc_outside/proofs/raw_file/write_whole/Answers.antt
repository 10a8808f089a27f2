use Rattle.std.proofs.Common.{rules}
use Rattle.std.proofs.lemmas.List.{take_rest}
use Rattle.fbc_outside.proofs.RawFileLemmas.{write_more}
use Rattle.fbc_outside.proofs.raw_file.write_whole.Goals.{in-Ok, in-Err}
use Rattle.fbc_outside.proofs.raw_file.write_whole.Goals as goal

pub loop-preserved : goal.loop-preserved
loop-preserved g c =
    let kept = c.loop.invariant in
    elim c.match-write_part.branch [
      | in-Ok w ↦ record {
        within = search rules;
        front = rw (w.done-is) (write_more _ _ _ _ _ _ _ kept.within kept.front w.in-Ok.count-test.1 (rw (take_rest c.args.from.now c.loop.done) at w.in-Ok.ensures.ok));
      }
      | in-Err w ↦ record {
        within = search rules;
        front = rw (w.done-is, w.in-Err.ensures.err) kept.front;
      }
    ]
