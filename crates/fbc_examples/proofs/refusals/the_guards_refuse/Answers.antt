use Rattle.fbc_examples.proofs.Refusing.{downward_wait, early_mark, early_unpin, early_write, lost_draft, lost_page, robbed_owner, torn_chain, two_holders}
use Rattle.fbc_examples.proofs.refusals.the_guards_refuse.Goals as goal

pub returns-clause-mark : goal.returns-clause-mark
returns-clause-mark c = early_mark

pub returns-clause-write : goal.returns-clause-write
returns-clause-write c = early_write

pub returns-clause-name : goal.returns-clause-name
returns-clause-name c = lost_page

pub returns-clause-draft : goal.returns-clause-draft
returns-clause-draft c = lost_draft

pub returns-clause-holder : goal.returns-clause-holder
returns-clause-holder c = two_holders

pub returns-clause-owner : goal.returns-clause-owner
returns-clause-owner c = robbed_owner

pub returns-clause-chain : goal.returns-clause-chain
returns-clause-chain c = torn_chain

pub returns-clause-unpin : goal.returns-clause-unpin
returns-clause-unpin c = early_unpin

pub returns-clause-wait : goal.returns-clause-wait
returns-clause-wait c = downward_wait
