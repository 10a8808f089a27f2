use Rattle.fbc_owner_queues.proofs.Named.{page_asked-closes_none}
use Rattle.fbc_owner_queues.proofs.laws.page_asks_close_no_circle.Goals as goal

pub returns : goal.returns
returns c = λ s owner resource level word free page. page_asked-closes_none owner resource level page s word free
