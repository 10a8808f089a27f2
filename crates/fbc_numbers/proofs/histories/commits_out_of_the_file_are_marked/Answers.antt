use Rattle.fbc_numbers.proofs.Numbered.{legal-numbered}
use Rattle.fbc_numbers.proofs.histories.commits_out_of_the_file_are_marked.Goals as goal

pub returns : goal.returns
returns c = λ shape file history legal upheld. (legal-numbered shape file history legal upheld).marked
