-- How far the page has come.
use Rattle.fbc_space.proofs.Staged.{HasTaken, left}
use Rattle.fbc_space.proofs.taking_pages.try_take.Given as goal

abbrev pub invariant-loop-desk : goal.invariant-loop-desk
invariant-loop-desk l = HasTaken l.page l.relation l.sequence l.initial.stage l.initial.desk l.stage l.desk

abbrev pub decreases-loop-desk : goal.decreases-loop-desk
decreases-loop-desk l = left l.stage
