use Rattle.fbc_examples.proofs.FreedNumbers.{legal_free_number, legal_free_relation}
use Rattle.fbc_examples.proofs.writing.locks_are_given_up.Goals as goal

pub returns-clause-number : goal.returns-clause-number
returns-clause-number c = legal_free_number

pub returns-clause-relation : goal.returns-clause-relation
returns-clause-relation c = legal_free_relation
