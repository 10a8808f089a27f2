use Rattle.std.proofs.Common.{◌≤◌, ◌++◌, List, length, subst, ◌∙◌, arith}
use Rattle.std.proofs.lemmas.List.{take_all}
use Rattle.fbc_reach.specs.Tally.{IsTallyOf}
use Rattle.fbc_reach.specs.declared.namings.Naming.{Naming}
use Rattle.fbc_reach.proofs.Tallies.{note_step}
use Rattle.fbc_reach.proofs.tally.Tally.note_all.Goals as goal

pub loop-naming-preserved : goal.loop-naming-preserved
loop-naming-preserved g c =
    let before = c.loop-naming.invariant in
    record {
      noted = λ done tally.
          note_step c.args.shape.now (g.D.Device.bytes c.args.device.now) (g.D.Device.bytes c.loop-naming.device) done c.args.namings.now c.loop-naming.naming-index
          _ c.loop-naming.self c.note.new.self before.bytes (omega arith) (before.noted done tally) c.in_ok-note.ensures.noted;
      next = c.note.ensures.next ∙ before.next;
      bytes = c.note.ensures.unwritten.bytes ∙ before.bytes;
      writes = c.note.ensures.unwritten.writes ∙ before.writes;
      landings = c.note.ensures.unwritten.landings ∙ before.landings;
      reach = c.note.ensures.device.reach ∙ before.reach;
      later = omega (arith, c.note.ensures.device.later, before.later);
    }

pub returns-clause-noted : goal.returns-clause-noted
returns-clause-noted g c done tally =
    let P : List Naming → Type 0 = λ row. IsTallyOf c.args.shape.now (g.D.Device.bytes c.args.device.now) (done ++ row) c.loop-naming.self in
    let all : length c.args.namings.now ≤ c.loop-naming.naming-index = omega arith in
    subst P (take_all c.loop-naming.naming-index c.args.namings.now all) (c.loop-naming.invariant.noted done tally)
