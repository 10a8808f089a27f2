use Rattle.fbc_legal.proofs.PageWaits.{no_page_circle}
use Rattle.fbc_legal.proofs.page_waits.page_waits_form_no_circle.Goals as goal

pub returns : goal.returns
returns c = λ shape file history owners legal. no_page_circle shape file history legal owners
