use Rattle.std.proofs.Common.{◌≡◌, ◌∙◌, ◌+◌, ◌-◌, length, take, drop, ap, sym, Some, arith}
use Rattle.std.proofs.lemmas.Grind.{common_steps}
use Rattle.fbc_command_line.specs.OptionReading.{with_number}
use Rattle.fbc_command_line.specs.Options.{option_named}
use Rattle.fbc_command_line.proofs.OptionLemmas.{joined_known}
use Rattle.fbc_command_line.proofs.options.joined.Goals as goal

pub returns-in-Some-clause-first : goal.returns-in-Some-clause-first
returns-in-Some-clause-first c =
    let behind : take (length c.args.word.now - (c.args.at + 1)) (drop (c.args.at + 1) c.args.word.now) ≡ drop (c.args.at + 1) c.args.word.now = grind (arith, common_steps) in
    let named : option_named c.args.table.now (take c.args.at c.args.word.now) ≡ Some c.in-Some.option = sym c.option_named.ensures.named ∙ c.in-Some.is in
    c.with_number.ensures.first ∙ ap (λ digits. with_number c.takes_at.result c.in-Some.option digits 1) behind
    ∙ sym (joined_known c.args.table.now c.args.word.now c.args.at c.in-Some.option c.takes_at.result named c.takes_at.ensures)
