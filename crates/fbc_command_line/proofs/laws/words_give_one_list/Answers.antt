use Rattle.fbc_command_line.proofs.OneSpelling.{one_list}
use Rattle.fbc_command_line.proofs.laws.words_give_one_list.Goals as goal

pub returns : goal.returns
returns c table words one other gives also = one_list table one other words gives.each also.each
