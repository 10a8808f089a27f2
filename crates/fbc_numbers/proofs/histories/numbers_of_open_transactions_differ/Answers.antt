use Rattle.fbc_numbers.proofs.Numbered.{legal-numbered}
use Rattle.fbc_numbers.proofs.histories.numbers_of_open_transactions_differ.Goals as goal

pub returns : goal.returns
returns c = λ shape file history legal upheld. (legal-numbered shape file history legal upheld).differ
