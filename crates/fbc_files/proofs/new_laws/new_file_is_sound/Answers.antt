use Rattle.fbc_files.proofs.NewSound.{IsSoundFile-new, MeanTheSame-new, NamesFit-new}
use Rattle.fbc_files.proofs.new_laws.new_file_is_sound.Goals as goal

pub returns-clause-sound : goal.returns-clause-sound
returns-clause-sound c = λ reach size relations bytes sized are is. IsSoundFile-new size relations sized are reach bytes is

pub returns-clause-meaning : goal.returns-clause-meaning
returns-clause-meaning c = MeanTheSame-new

pub returns-clause-names : goal.returns-clause-names
returns-clause-names c = NamesFit-new
