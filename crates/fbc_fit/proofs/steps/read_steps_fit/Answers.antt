use Rattle.fbc_fit.proofs.StepsTaken.{read-damaged, read-failed, read-shown}
use Rattle.fbc_fit.proofs.steps.read_steps_fit.Goals as goal

pub returns-clause-shown : goal.returns-clause-shown
returns-clause-shown _ = λ at c later page length image content kept shows. read-shown at c later page length content (kept.shown content shows)

pub returns-clause-damaged : goal.returns-clause-damaged
returns-clause-damaged _ = λ at c later page length image rule kept broken. read-damaged at c later page length (kept.broken rule broken)

pub returns-clause-failed : goal.returns-clause-failed
returns-clause-failed _ = λ at c later page. read-failed at c later page
