-- An edit is a call, or leaves the desk.
use Rattle.fbc_desk.proofs.Goes.{result_goes}
use Rattle.fbc_desk.proofs.desk.Desk.edit.Goals as goal

pub returns-clause-goes : goal.returns-clause-goes
returns-clause-goes c = result_goes c.args.self.now c.edit_tested.new.self c.args.page c.args.edit c.args.highs.now c.edit_tested.result c.edit_tested.ensures.made c.edit_tested.ensures.err
