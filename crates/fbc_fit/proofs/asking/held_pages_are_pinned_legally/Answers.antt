use Rattle.fbc_world.specs.World.{world_of}
use Rattle.fbc_fit.proofs.HeldPages.{may-use}
use Rattle.fbc_fit.proofs.asking.held_pages_are_pinned_legally.Goals as goal

pub returns : goal.returns
returns _ = λ shape file history owner c page is fits free granted.
    record { held = may-use shape (world_of shape file history) owner c is fits page granted; free = free }
