use Rattle.fbc_numbers.proofs.OpensNotDead.{newest-not_dead}
use Rattle.fbc_numbers.proofs.opens_apart.open_numbers_are_not_dead_in_the_newest_pages.Goals as goal

pub returns : goal.returns
returns c = λ at owner t apart is. newest-not_dead at.world apart.not_dead owner t is
