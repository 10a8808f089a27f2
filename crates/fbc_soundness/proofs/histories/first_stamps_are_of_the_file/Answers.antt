use Rattle.fbc_soundness.proofs.FirstOrigins.{first-original}
use Rattle.fbc_soundness.proofs.histories.first_stamps_are_of_the_file.Goals as goal

pub returns : goal.returns
returns c = λ shape file. first-original shape file
