use Rattle.std.proofs.Common.{◌∙◌}
use Rattle.fbc_world.specs.World.{world_of}
use Rattle.fbc_buffers.specs.Holding.{buffer_of}
use Rattle.fbc_fit.proofs.HeldPages.{may-use, unread-none, unread-usable}
use Rattle.fbc_fit.proofs.asking.due_reads_are_legal.Goals as goal

pub returns : goal.returns
returns _ = λ shape file history owner c page is fits due.
    record {
      held = may-use shape (world_of shape file history) owner c is fits page (unread-usable shape (world_of shape file history) owner c is fits page due);
      none = (fits.pages page).copy ∙ unread-none (buffer_of c.held page) due;
    }
