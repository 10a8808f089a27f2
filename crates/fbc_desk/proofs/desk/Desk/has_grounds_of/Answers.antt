-- What a name rests on.
use Rattle.fbc_desk.proofs.desk.Desk.has_grounds_of.Goals as goal

pub returns-in-Name : goal.returns-in-Name
returns-in-Name c = rw c.in-Name.is c.may_name.ensures
