use Rattle.std.proofs.Common.{refl}
use Rattle.fbc_pages.proofs.head.write_head.Goals as goal

pub returns-clause-head : goal.returns-clause-head
returns-clause-head c = rw c.lay_head.ensures (record { kind_is = refl; one = refl; relation_is = refl; page_is = refl; sequence_is = refl; zeros = refl })
