use Rattle.std.proofs.Common.{refl}
use Rattle.fbc_region.proofs.Keeping.{uses_more}
use Rattle.fbc_region.proofs.ledgers.Ledger.look.Goals as goal

pub returns-in-Granted-clause-room : goal.returns-in-Granted-clause-room
returns-in-Granted-clause-room c = uses_more c.args.self.now c.record.new.self c.args.self.now refl c.record.ensures.room

pub returns-in-NotYet-clause-room : goal.returns-in-NotYet-clause-room
returns-in-NotYet-clause-room c = uses_more c.args.self.now c.record-in-NotYet.new.self c.args.self.now refl c.record-in-NotYet.ensures.room
