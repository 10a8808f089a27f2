use Rattle.std.proofs.Common.{sym, subst}
use Rattle.fbc_command_line.specs.declared.commands.Command.TheVariants as command
use Rattle.fbc_command_line.specs.Commands.{SpellsCommand}
use Rattle.fbc_console.proofs.EndingLemmas.{told_command, no_command_carried_out, play_carried_out, create_carried_out, check_carried_out}
use Rattle.fbc_console.proofs.top_call.carry_out.Goals as goal

pub returns-in-Ok-Some-Play-clause-done : goal.returns-in-Ok-Some-Play-clause-done
returns-in-Ok-Some-Play-clause-done g c =
    play_carried_out (g.D.Device.reach c.args.device.now) c.args.words.now (g.S.Source.left c.args.script.now) (g.D.Device.bytes c.args.device.now) _ (g.K.Sink.may_have c.args.out.now) (g.K.Sink.may_have c.play_file.new.out) c.play_file.result
    (told_command c.args.words.now c.in-Ok-Some-Play.field-0 c.in-Ok-Some-Play.field-0-0 _ c.in-Ok-Some-Play.field-0-is c.in-Ok-Some-Play.field-0-0-is c.in-Ok-Some-Play.ensures)
    c.play_file.ensures.done

pub returns-in-Ok-Some-Create-clause-done : goal.returns-in-Ok-Some-Create-clause-done
returns-in-Ok-Some-Create-clause-done g c =
    let spelled = told_command c.args.words.now c.in-Ok-Some-Create.field-0 c.in-Ok-Some-Create.field-0-0 _ c.in-Ok-Some-Create.field-0-is c.in-Ok-Some-Create.field-0-0-is c.in-Ok-Some-Create.ensures in
    create_carried_out (g.D.Device.reach c.args.device.now) c.args.words.now (g.S.Source.left c.args.script.now) (g.D.Device.bytes c.args.device.now) _ (g.K.Sink.may_have c.args.out.now) (g.K.Sink.may_have c.create.new.out) c.create.result c.in-Ok-Some-Create.size c.items.result.now (subst (λ relations. SpellsCommand c.args.words.now (command.Create c.in-Ok-Some-Create.size relations)) (sym c.items.ensures) spelled) c.create.ensures.done

pub returns-in-Ok-None-clause-done : goal.returns-in-Ok-None-clause-done
returns-in-Ok-None-clause-done g c =
    no_command_carried_out (g.D.Device.reach c.args.device.now) c.args.words.now (g.S.Source.left c.args.script.now) (g.D.Device.bytes c.args.device.now) (g.K.Sink.may_have c.args.out.now) c.in-Ok-None.field-0 c.in-Ok-None.field-0-is c.in-Ok-None.ensures

pub returns-in-Ok-Some-Validate-clause-done : goal.returns-in-Ok-Some-Validate-clause-done
returns-in-Ok-Some-Validate-clause-done g c =
    check_carried_out (g.D.Device.reach c.args.device.now) c.args.words.now (g.S.Source.left c.args.script.now) (g.D.Device.bytes c.args.device.now) _ (g.K.Sink.may_have c.args.out.now) (g.K.Sink.may_have c.check.new.out) c.check.result c.in-Ok-Some-Validate.json
    (told_command c.args.words.now c.in-Ok-Some-Validate.field-0 c.in-Ok-Some-Validate.field-0-0 _ c.in-Ok-Some-Validate.field-0-is c.in-Ok-Some-Validate.field-0-0-is c.in-Ok-Some-Validate.ensures)
    c.check.ensures.done
