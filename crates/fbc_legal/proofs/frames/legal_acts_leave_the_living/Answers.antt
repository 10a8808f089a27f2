use Rattle.fbc_legal.proofs.Frame.{draft_left, holdings_left, mark_left, requests_left, transaction_left}
use Rattle.fbc_legal.proofs.frames.legal_acts_leave_the_living.Goals as goal

pub returns-clause-holdings : goal.returns-clause-holdings
returns-clause-holdings c = λ shape file before moment other legal lives apart. holdings_left shape file before moment other legal lives apart

pub returns-clause-drafts : goal.returns-clause-drafts
returns-clause-drafts c = λ shape file before moment other page drafted legal lives apart. draft_left shape file before moment other legal lives apart page drafted

pub returns-clause-requests : goal.returns-clause-requests
returns-clause-requests c = λ shape file before moment other legal lives apart. requests_left shape file before moment other legal lives apart

pub returns-clause-transaction : goal.returns-clause-transaction
returns-clause-transaction c = λ shape file before moment other legal lives apart. transaction_left shape file before moment other legal lives apart

pub returns-clause-mark : goal.returns-clause-mark
returns-clause-mark c = λ shape file before moment other legal lives apart. mark_left shape file before moment other legal lives apart
