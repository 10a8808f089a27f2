use Rattle.std.proofs.Common.{sym, subst}
use Rattle.fbc_console.specs.Asking.{ArePlayable, IsPlayable}
use Rattle.fbc_console.proofs.EndingLemmas.{transaction_played, nothing_played}
use Rattle.fbc_console.proofs.top_call.play_asked.Goals as goal

pub returns-in-Steps-clause-played : goal.returns-in-Steps-clause-played
returns-in-Steps-clause-played g c =
    let playable : ArePlayable c.items.result.now = subst ArePlayable (sym c.items.ensures) (subst IsPlayable c.in-Steps.is c.requires.playable) in
    rw (c.in-Steps.is, ← c.items.ensures)
    (transaction_played c.play.result (g.K.Sink.may_have c.args.out.now) (g.K.Sink.may_have c.play.new.out) c.items.result.now (g.D.Device.bytes c.args.device.now) (g.D.Device.bytes c.play.new.device)
    (c.answers_are_the_machines.ensures c.items.result.now)
    (λ reach. c.a_committed_transaction_is_a_play.ensures reach (g.D.Device.bytes c.args.device.now) (g.D.Device.bytes c.play.new.device) c.items.result.now c.requires.fresh playable.few)
    (λ reach. c.a_transaction_stands_as_a_whole.ensures reach c.play.result (g.D.Device.bytes c.args.device.now) (g.D.Device.bytes c.play.new.device) c.items.result.now c.requires.fresh playable.few)
    c.play.ensures.said c.play.ensures.stands)

pub returns-in-Absent-clause-played : goal.returns-in-Absent-clause-played
returns-in-Absent-clause-played g c =
    rw c.in-Absent.is
    (nothing_played (g.K.Sink.may_have c.args.out.now) (g.D.Device.bytes c.args.device.now) (λ reach. c.an_untouched_file_is_an_empty_play.ensures reach (g.D.Device.bytes c.args.device.now) c.requires.fresh))
