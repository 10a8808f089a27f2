use Rattle.std.proofs.Common.{sym, subst}
use Rattle.fbc_files.specs.Opening.{IsRefused}
use Rattle.fbc_console.specs.declared.statuses.Status.TheVariants as status
use Rattle.fbc_console.proofs.CheckingLemmas.{not_checked, refused_by, was_checked}
use Rattle.fbc_console.proofs.checking.check.Goals as goal

pub returns-in-Ok-clause-done : goal.returns-in-Ok-clause-done
returns-in-Ok-clause-done g c =
    was_checked c.args.json (g.D.Device.reach c.args.device.now) (g.D.Device.bytes c.args.device.now) _ (g.K.Sink.may_have c.args.out.now) c.validate.ensures.unwritten.bytes (g.K.Sink.may_have c.tell.new.out) c.tell.result c.in-Ok.found
    c.in-Ok.ensures.found c.tell.ensures.told

pub returns-in-Err-NotOurs-clause-done : goal.returns-in-Err-NotOurs-clause-done
returns-in-Err-NotOurs-clause-done g c =
    not_checked c.args.json (g.D.Device.reach c.args.device.now) (g.D.Device.bytes c.args.device.now) _ (g.K.Sink.may_have c.args.out.now) c.validate.ensures.unwritten.bytes _
    (subst (λ rule. IsRefused rule (g.D.Device.bytes c.args.device.now)) (sym c.in-Err-NotOurs.rule-is)
    (refused_by (g.D.Device.bytes c.args.device.now) c.in-Err-NotOurs.field-0 c.in-Err-NotOurs.rule c.in-Err-NotOurs.field-0-is c.in-Err-NotOurs.ensures.refused))

pub returns-in-Err-DeviceFault-clause-done : goal.returns-in-Err-DeviceFault-clause-done
returns-in-Err-DeviceFault-clause-done g c =
    not_checked c.args.json (g.D.Device.reach c.args.device.now) (g.D.Device.bytes c.args.device.now) _ (g.K.Sink.may_have c.args.out.now) c.validate.ensures.unwritten.bytes status.DeviceFault tt

pub returns-in-Err-Memory-clause-done : goal.returns-in-Err-Memory-clause-done
returns-in-Err-Memory-clause-done g c =
    not_checked c.args.json (g.D.Device.reach c.args.device.now) (g.D.Device.bytes c.args.device.now) _ (g.K.Sink.may_have c.args.out.now) c.validate.ensures.unwritten.bytes status.OutOfMemory tt
