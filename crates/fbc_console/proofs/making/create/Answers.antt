use Rattle.std.proofs.Common.{◌∙◌, Err, ap, sym, subst}
use Rattle.fbc_files.specs.Creating.{HoldsIfEmpty, IsNewFile, IsPartOfNewFile}
use Rattle.fbc_outside.specs.Streams.{SinkTakes, SinkTakesSome}
use Rattle.fbc_console.specs.Making.{WhyNotMade}
use Rattle.fbc_console.proofs.MakingLemmas.{told_vacant, told_occupied, not_made, was_made, was_made_untold, was_made_in_part}
use Rattle.fbc_console.proofs.making.create.Goals as goal

pub returns-in-Ok-false-clause-done : goal.returns-in-Ok-false-clause-done
returns-in-Ok-false-clause-done g c =
    not_made c.args.size c.args.relations.now (g.D.Device.bytes c.args.device.now) _ (g.K.Sink.may_have c.args.out.now) _ (told_occupied c.in-Ok-false.field-0 (g.D.Device.bytes c.args.device.now) c.in-Ok-false.field-0-test c.in-Ok-false.ensures.tells) c.is_vacant.ensures.unwritten.bytes

pub returns-in-Err-clause-done : goal.returns-in-Err-clause-done
returns-in-Err-clause-done g c =
    not_made c.args.size c.args.relations.now (g.D.Device.bytes c.args.device.now) _ (g.K.Sink.may_have c.args.out.now) c.in-Err.status (subst (λ ended. WhyNotMade ended (g.D.Device.bytes c.args.device.now)) (sym c.in-Err.ensures.only) tt) c.is_vacant.ensures.unwritten.bytes

pub returns-in-Err-created_line-clause-done : goal.returns-in-Err-created_line-clause-done
returns-in-Err-created_line-clause-done g c = not_made c.args.size c.args.relations.now (g.D.Device.bytes c.args.device.now) _ (g.K.Sink.may_have c.args.out.now) _ tt c.is_vacant.ensures.unwritten.bytes

pub returns-in-Ok-write_all-clause-done : goal.returns-in-Ok-write_all-clause-done
returns-in-Ok-write_all-clause-done g c =
    was_made c.args.size c.args.relations.now (λ reach bytes. c.new_file_is_sound.ensures.sound reach c.args.size c.args.relations.now bytes c.requires.size c.requires.relations) (c.new_file_is_sound.ensures.meaning c.args.size c.args.relations.now c.requires.size c.requires.relations) (g.D.Device.bytes c.args.device.now) (g.D.Device.bytes c.create_file.new.device) (g.K.Sink.may_have c.args.out.now) (g.K.Sink.may_have c.write_all.new.out) (told_vacant c.in-Ok-true.field-0 (g.D.Device.bytes c.args.device.now) c.in-Ok-true.field-0-test c.in-Ok-true.ensures.tells)
    (subst (λ file. HoldsIfEmpty (IsNewFile c.args.size c.args.relations.now) file (g.D.Device.bytes c.create_file.new.device)) c.is_vacant.ensures.unwritten.bytes c.in-Ok-create_file.ensures.made)
    (subst (λ text. SinkTakes (g.K.Sink.may_have c.args.out.now) (g.K.Sink.may_have c.write_all.new.out) text) (c.as_bytes.ensures.value ∙ c.in-Ok.ensures) c.in-Ok-write_all.ensures.ok)

pub returns-in-Ok-create_file-clause-done : goal.returns-in-Ok-create_file-clause-done
returns-in-Ok-create_file-clause-done g c =
    was_made_untold c.args.size c.args.relations.now (λ reach bytes. c.new_file_is_sound.ensures.sound reach c.args.size c.args.relations.now bytes c.requires.size c.requires.relations) (c.new_file_is_sound.ensures.meaning c.args.size c.args.relations.now c.requires.size c.requires.relations) (g.D.Device.bytes c.args.device.now) (g.D.Device.bytes c.create_file.new.device) (g.K.Sink.may_have c.args.out.now) (g.K.Sink.may_have c.write_all.new.out) (told_vacant c.in-Ok-true.field-0 (g.D.Device.bytes c.args.device.now) c.in-Ok-true.field-0-test c.in-Ok-true.ensures.tells)
    (subst (λ file. HoldsIfEmpty (IsNewFile c.args.size c.args.relations.now) file (g.D.Device.bytes c.create_file.new.device)) c.is_vacant.ensures.unwritten.bytes c.in-Ok-create_file.ensures.made)
    (subst (λ text. SinkTakesSome (g.K.Sink.may_have c.args.out.now) (g.K.Sink.may_have c.write_all.new.out) text) (c.as_bytes.ensures.value ∙ c.in-Ok.ensures) c.in-Err-write_all.ensures.err)

pub returns-in-Err-Device-clause-done : goal.returns-in-Err-Device-clause-done
returns-in-Err-Device-clause-done g c =
    was_made_in_part c.args.size c.args.relations.now (g.D.Device.bytes c.args.device.now) (g.D.Device.bytes c.create_file.new.device) (g.K.Sink.may_have c.args.out.now) (told_vacant c.in-Ok-true.field-0 (g.D.Device.bytes c.args.device.now) c.in-Ok-true.field-0-test c.in-Ok-true.ensures.tells)
    (subst (λ file. HoldsIfEmpty (IsPartOfNewFile c.args.size c.args.relations.now) file (g.D.Device.bytes c.create_file.new.device)) c.is_vacant.ensures.unwritten.bytes c.in-Err-Device.ensures.part)

pub returns-clause-done : goal.returns-clause-done
returns-clause-done g c =
    not_made c.args.size c.args.relations.now (g.D.Device.bytes c.args.device.now) _ (g.K.Sink.may_have c.args.out.now) _ tt (c.create_file.ensures.memory_bytes (c.in-Err-Memory.is ∙ ap Err c.in-Err-Memory.field-0-is) ∙ c.is_vacant.ensures.unwritten.bytes)
