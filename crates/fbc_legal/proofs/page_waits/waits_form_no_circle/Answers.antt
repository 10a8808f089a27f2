use Rattle.fbc_legal.proofs.AllWaits.{no_wait_circle}
use Rattle.fbc_legal.proofs.page_waits.waits_form_no_circle.Goals as goal

pub returns : goal.returns
returns c = λ shape file history owners legal. no_wait_circle shape file history legal owners
