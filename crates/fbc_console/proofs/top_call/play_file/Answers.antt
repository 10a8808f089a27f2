use Rattle.std.proofs.Common.{◌∙◌, refl}
use Rattle.fbc_console.specs.Ending.{refused, unasked, other}
use Rattle.fbc_console.proofs.EndingLemmas.{not_played, told_fresh, told_other, was_played, without_file}
use Rattle.fbc_console.proofs.top_call.play_file.Goals as goal

pub returns-in-Err-clause-done : goal.returns-in-Err-clause-done
returns-in-Err-clause-done g c =
    not_played (g.S.Source.left c.args.script.now) (g.D.Device.bytes c.args.device.now) _ (g.K.Sink.may_have c.args.out.now) c.in-Err.status (refused c.in-Err.ensures.refused) c.open.ensures.unwritten.bytes

pub returns-in-Err-read_asked-clause-done : goal.returns-in-Err-read_asked-clause-done
returns-in-Err-read_asked-clause-done g c =
    not_played (g.S.Source.left c.args.script.now) (g.D.Device.bytes c.args.device.now) _ (g.K.Sink.may_have c.args.out.now) c.in-Err-read_asked.status
    (unasked c.in_default.ensures.opened.recognised c.in-Err-read_asked.ensures.why) c.open.ensures.unwritten.bytes

pub returns-in-Ok-true-clause-done : goal.returns-in-Ok-true-clause-done
returns-in-Ok-true-clause-done g c =
    was_played (g.S.Source.left c.args.script.now) (g.D.Device.bytes c.args.device.now) (g.D.Device.bytes c.is_fresh.new.device) _ (g.K.Sink.may_have c.args.out.now) (g.K.Sink.may_have c.play_asked.new.out) c.play_asked.result c.in-Ok.asked
    (told_fresh c.in-Ok-true.field-0 (g.D.Device.bytes c.args.device.now) (g.D.Device.bytes c.open.new.device) c.in-Ok-true.field-0-test c.open.ensures.unwritten.bytes c.in-Ok-true.ensures.tells)
    c.in-Ok.ensures.asked (c.is_fresh.ensures.unwritten.bytes ∙ c.open.ensures.unwritten.bytes) c.play_asked.ensures.played

pub returns-in-Ok-false-clause-done : goal.returns-in-Ok-false-clause-done
returns-in-Ok-false-clause-done g c =
    not_played (g.S.Source.left c.args.script.now) (g.D.Device.bytes c.args.device.now) _ (g.K.Sink.may_have c.args.out.now) _
    (other c.in-Ok.asked c.in_default.ensures.opened.recognised c.in-Ok.ensures.asked
    (told_other c.in-Ok-false.field-0 (g.D.Device.bytes c.args.device.now) (g.D.Device.bytes c.open.new.device) c.in-Ok-false.field-0-test c.open.ensures.unwritten.bytes c.in-Ok-false.ensures.tells) refl)
    (c.is_fresh.ensures.unwritten.bytes ∙ c.open.ensures.unwritten.bytes)

pub returns-clause-done : goal.returns-clause-done
returns-clause-done g c =
    not_played (g.S.Source.left c.args.script.now) (g.D.Device.bytes c.args.device.now) _ (g.K.Sink.may_have c.args.out.now) c.in-Err-is_fresh.status
    (without_file _ _ c.in-Err-is_fresh.status c.in-Err-is_fresh.ensures.only) (c.is_fresh.ensures.unwritten.bytes ∙ c.open.ensures.unwritten.bytes)
