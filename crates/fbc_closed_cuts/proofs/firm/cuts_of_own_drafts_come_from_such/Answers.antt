use Rattle.std.proofs.Common.{ap}
use Rattle.fbc_kinds.specs.View.{View}
use Rattle.fbc_closed_cuts.proofs.Firmness.{one-view, own-before}
use Rattle.fbc_closed_cuts.proofs.firm.cuts_of_own_drafts_come_from_such.Goals as goal

pub returns-clause-cut : goal.returns-clause-cut
returns-clause-cut c = λ shape file before moment owner cut legal apart plain own. own-before shape file before moment owner legal apart plain cut own

pub returns-clause-view : goal.returns-clause-view
returns-clause-view c = λ shape file before moment owner page cut legal apart plain own. ap (λ (v : View). v page) (one-view shape file before moment owner legal apart plain cut own)
