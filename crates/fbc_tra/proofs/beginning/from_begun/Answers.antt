-- The header gives out the next number, and then all pages are unpinned.
use Rattle.fbc_desk.proofs.Goes.{goes_on}
use Rattle.fbc_tra.proofs.beginning.from_begun.Goals as goal

pub returns-then-branch-clause-goes : goal.returns-then-branch-clause-goes
returns-then-branch-clause-goes c = goes_on c.args.desk.now c.raise.new.desk c.unpin_all.new.self c.raise.ensures.goes c.unpin_all.ensures.goes
