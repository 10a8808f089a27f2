use Rattle.std.proofs.Common.{rules, ◌-◌, length, take, drop, codes}
use Rattle.fbc_command_line.proofs.CommandLines.{first_word, whole_line, whole_result}
use Rattle.fbc_command_line.proofs.commands.command_of.Goals as goal

pub returns-then-is_create : goal.returns-then-is_create
returns-then-is_create c =
    whole_result c.args.words.now c.name-item.result (take (length c.args.words.now - 1) (drop 1 c.args.words.now))
    (first_word c.args.words.now c.name-item.result c.in-len1-up.len_at_least c.name-item.is)
    (codes "create") c.create_of.result (search rules) c.create_of.ensures

pub returns-then-is_play : goal.returns-then-is_play
returns-then-is_play c =
    whole_line c.args.words.now c.name-item.result (take (length c.args.words.now - 1) (drop 1 c.args.words.now))
    (first_word c.args.words.now c.name-item.result c.in-len1-up.len_at_least c.name-item.is)
    (codes "play") c.play_of.result (search rules) c.play_of.ensures

pub returns-then-is_validate : goal.returns-then-is_validate
returns-then-is_validate c =
    whole_result c.args.words.now c.name-item.result (take (length c.args.words.now - 1) (drop 1 c.args.words.now))
    (first_word c.args.words.now c.name-item.result c.in-len1-up.len_at_least c.name-item.is)
    (codes "validate") c.validate_of.result (search rules) c.validate_of.ensures
