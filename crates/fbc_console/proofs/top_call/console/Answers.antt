use Rattle.fbc_console.proofs.CheckVerdicts.{sound_file, unsound_file}
use Rattle.fbc_console.proofs.Completeness.{plays, makes, checks}
use Rattle.fbc_console.proofs.top_call.console.Goals as goal

pub returns-clause-plays : goal.returns-clause-plays
returns-clause-plays g c failed plain =
    plays (g.D.Device.reach c.args.device) c.args.words.now (g.S.Source.left c.args.script.now) (g.D.Device.bytes c.args.device) (g.D.Device.bytes c.run-status.new.device) (g.K.Sink.may_have c.args.out.now) (g.K.Sink.may_have c.run-status.new.out) c.run-status.result
    (λ is. failed.of_device (c.run-status.ensures.device.risen is)) (λ is. failed.of_source (c.run-status.ensures.source.risen is)) (λ is. failed.of_sink (c.run-status.ensures.sink.risen is)) (c.words_spell_one_command.ensures c.args.words.now) c.run-status.ensures.ended
    (λ bytes fresh. (c.the_fresh_file_means_no_rows.ensures 0 bytes fresh).sound.file.unbroken) c.bytes_spell_one_script.ensures plain

pub returns-clause-makes : goal.returns-clause-makes
returns-clause-makes g c failed plain =
    makes (g.D.Device.reach c.args.device) c.args.words.now (g.S.Source.left c.args.script.now) (g.D.Device.bytes c.args.device) (g.D.Device.bytes c.run-status.new.device) (g.K.Sink.may_have c.args.out.now) (g.K.Sink.may_have c.run-status.new.out) c.run-status.result
    (λ is. failed.of_device (c.run-status.ensures.device.risen is)) (λ is. failed.of_source (c.run-status.ensures.source.risen is)) (λ is. failed.of_sink (c.run-status.ensures.sink.risen is)) (c.words_spell_one_command.ensures c.args.words.now) c.run-status.ensures.ended
    plain

pub returns-clause-checks : goal.returns-clause-checks
returns-clause-checks g c failed plain =
    checks (g.D.Device.reach c.args.device) c.args.words.now (g.S.Source.left c.args.script.now) (g.D.Device.bytes c.args.device) (g.D.Device.bytes c.run-status.new.device) (g.K.Sink.may_have c.args.out.now) (g.K.Sink.may_have c.run-status.new.out) c.run-status.result
    (λ is. failed.of_device (c.run-status.ensures.device.risen is)) (λ is. failed.of_source (c.run-status.ensures.source.risen is)) (λ is. failed.of_sink (c.run-status.ensures.sink.risen is)) (c.words_spell_one_command.ensures c.args.words.now) c.run-status.ensures.ended
    plain

pub returns-clause-sound : goal.returns-clause-sound
returns-clause-sound g c is spells =
    sound_file (g.D.Device.reach c.args.device) c.args.words.now (g.S.Source.left c.args.script.now) (g.D.Device.bytes c.args.device) (g.D.Device.bytes c.run-status.new.device) (g.K.Sink.may_have c.args.out.now) (g.K.Sink.may_have c.run-status.new.out) c.run-status.result
    (c.words_spell_one_command.ensures c.args.words.now) c.run-status.ensures.ended spells is

pub returns-clause-unsound : goal.returns-clause-unsound
returns-clause-unsound g c is spells =
    unsound_file (g.D.Device.reach c.args.device) c.args.words.now (g.S.Source.left c.args.script.now) (g.D.Device.bytes c.args.device) (g.D.Device.bytes c.run-status.new.device) (g.K.Sink.may_have c.args.out.now) (g.K.Sink.may_have c.run-status.new.out) c.run-status.result
    (c.words_spell_one_command.ensures c.args.words.now) c.run-status.ensures.ended spells is
