-- What unpins the pages that are left unpins all; each turn leaves fewer.
use Rattle.fbc_desk.specs.Calls.{GoesOn, UnpinsAll}
use Rattle.fbc_desk.specs.Desk.{DeskState}
use Rattle.fbc_desk.proofs.Unpinning.{pinned_count}
use Rattle.fbc_desk.proofs.desk.Desk.unpin_all.Given as goal

abbrev pub invariant-loop-page : goal.invariant-loop-page
invariant-loop-page l = ((after : DeskState) → UnpinsAll l.self after → UnpinsAll l.initial.self after) × GoesOn l.initial.self l.self

abbrev pub decreases-loop-page : goal.decreases-loop-page
decreases-loop-page l = pinned_count l.self.cache.held
