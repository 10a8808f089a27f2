use Rattle.fbc_examples.proofs.EveryForm.{form_occurs}
use Rattle.fbc_examples.proofs.kinds.every_form_of_edit_occurs.Goals as goal

pub returns : goal.returns
returns c = form_occurs
