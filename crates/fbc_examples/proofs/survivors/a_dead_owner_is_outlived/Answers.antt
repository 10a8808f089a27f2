use Rattle.std.proofs.Common.{refl}
use Rattle.fbc_examples.proofs.TwoOpen.{legal_buried_number}
use Rattle.fbc_examples.proofs.survivors.a_dead_owner_is_outlived.Goals as goal

pub returns-clause-legal : goal.returns-clause-legal
returns-clause-legal c = legal_buried_number

pub returns-clause-first : goal.returns-clause-first
returns-clause-first c = refl

pub returns-clause-second : goal.returns-clause-second
returns-clause-second c = refl

pub returns-clause-dead : goal.returns-clause-dead
returns-clause-dead c = refl

pub returns-clause-number : goal.returns-clause-number
returns-clause-number c = refl
