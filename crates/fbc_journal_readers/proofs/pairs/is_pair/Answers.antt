use Rattle.fbc_journal_readers.proofs.PairLaws.{IsPair-actor}
use Rattle.fbc_journal_readers.proofs.pairs.is_pair.Goals as goal

pub returns : goal.returns
returns c = rw c.is_pair_of_actor.ensures (IsPair-actor c.args.high c.args.low c.args.events.now)
