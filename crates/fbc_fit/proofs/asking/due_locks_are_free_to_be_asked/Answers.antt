use Rattle.fbc_world.specs.World.{world_of}
use Rattle.fbc_legal.proofs.Induction.{requests_true}
use Rattle.fbc_fit.proofs.DueLocks.{due-is, has_room, not_asked}
use Rattle.fbc_fit.proofs.Rooms.{asks_few}
use Rattle.fbc_fit.proofs.Waited.{nothing_waited}
use Rattle.fbc_fit.proofs.asking.due_locks_are_free_to_be_asked.Goals as goal

pub returns-clause-free : goal.returns-clause-free
returns-clause-free _ = λ shape file history owner c page level wait word fits pages due.
    nothing_waited shape (world_of shape file history) owner c (requests_true shape file history).apart fits pages (due-is c page level due).alone

pub returns-clause-asked : goal.returns-clause-asked
returns-clause-asked _ = λ shape file history owner c page level wait word legal fits due.
    record {
      fresh = not_asked shape (world_of shape file history) owner c fits page (due-is c page level due);
      room = has_room shape (world_of shape file history) owner c fits page (due-is c page level due) (asks_few shape file history legal owner);
    }
