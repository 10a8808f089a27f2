use Rattle.std.proofs.Common.{◌-◌, IfOk, length, take, drop, subst}
use Rattle.fbc_command_line.specs.Commands.{TellsFile}
use Rattle.fbc_command_line.proofs.CommandLines.{first_word, file_result}
use Rattle.fbc_command_line.proofs.new_file.create_of.Goals as goal

pub returns-in-len1-up : goal.returns-in-len1-up
returns-in-len1-up c =
    file_result c.args.words.now c.size-item.result (take (length c.args.words.now - 1) (drop 1 c.args.words.now)) c.file_of.result
    (first_word c.args.words.now c.size-item.result c.in-len1-up.len_at_least c.size-item.is)
    (subst (λ text. IfOk c.file_of.result (TellsFile text (take (length c.args.words.now - 1) (drop 1 c.args.words.now)))) c.as_bytes.ensures.value c.file_of.ensures)
