use Rattle.std.proofs.Common.{arith}
use Rattle.fbc_region.proofs.pages.write_page.Goals as goal

pub returns-in-Err-clause-room : goal.returns-in-Err-clause-room
returns-in-Err-clause-room g c = λ n room. c.fail.ensures.room n (omega (arith, room))
