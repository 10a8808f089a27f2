use Rattle.fbc_world.specs.PageCell.{page_for}
use Rattle.fbc_world.specs.World.{World, world_of}
use Rattle.fbc_simulation.specs.Beside.{machine_of}
use Rattle.fbc_simulation.proofs.EditsCome.{mark_comes, plain_comes}
use Rattle.fbc_simulation.proofs.edits.plain_edits_and_marks_come.Goals as goal

pub returns-clause-plain : goal.returns-clause-plain
returns-clause-plain c shape file past owner page e plain =
    let w : World = world_of shape file past in
    plain_comes (machine_of shape file past) shape owner (w.transaction owner) (page_for owner (w.kept page) (w.draft page)) e plain

pub returns-clause-mark : goal.returns-clause-mark
returns-clause-mark c shape file past owner page number state =
    let w : World = world_of shape file past in
    mark_comes (machine_of shape file past) shape owner (w.transaction owner) (page_for owner (w.kept page) (w.draft page)) number state
