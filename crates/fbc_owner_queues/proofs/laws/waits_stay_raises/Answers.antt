use Rattle.fbc_owner_queues.proofs.Raises.{ask_keeps, lower_keeps, withdraw_keeps, die_keeps, grant_keeps, purge_keeps}
use Rattle.fbc_owner_queues.proofs.laws.waits_stay_raises.Goals as goal

pub returns-clause-ask : goal.returns-clause-ask
returns-clause-ask c = ask_keeps

pub returns-clause-lower : goal.returns-clause-lower
returns-clause-lower c = lower_keeps

pub returns-clause-withdraw : goal.returns-clause-withdraw
returns-clause-withdraw c = withdraw_keeps

pub returns-clause-die : goal.returns-clause-die
returns-clause-die c = die_keeps

pub returns-clause-grant : goal.returns-clause-grant
returns-clause-grant c = grant_keeps

pub returns-clause-purge : goal.returns-clause-purge
returns-clause-purge c = purge_keeps
