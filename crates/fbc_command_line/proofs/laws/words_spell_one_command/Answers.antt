use Rattle.fbc_command_line.proofs.OneSpelling.{one_command}
use Rattle.fbc_command_line.proofs.laws.words_spell_one_command.Goals as goal

pub returns : goal.returns
returns c words one other spells also = one_command words one other spells also
