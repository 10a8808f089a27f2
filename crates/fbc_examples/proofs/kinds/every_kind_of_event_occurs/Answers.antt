use Rattle.fbc_examples.proofs.EveryKind.{kind_occurs}
use Rattle.fbc_examples.proofs.kinds.every_kind_of_event_occurs.Goals as goal

pub returns : goal.returns
returns c = kind_occurs
