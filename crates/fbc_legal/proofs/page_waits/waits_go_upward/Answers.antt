use Rattle.fbc_legal.proofs.WaitsTold.{blocked_upward, upward}
use Rattle.fbc_legal.proofs.page_waits.waits_go_upward.Goals as goal

pub returns-clause-waits : goal.returns-clause-waits
returns-clause-waits c = λ shape file history owner resource wanted legal. upward shape file history legal owner resource wanted

pub returns-clause-blocked : goal.returns-clause-blocked
returns-clause-blocked c = λ shape file history owner resource wanted legal. blocked_upward shape file history legal owner resource wanted
