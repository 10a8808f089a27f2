use Rattle.fbc_origins.proofs.CutsNext.{cuts-in-views}
use Rattle.fbc_origins.proofs.cuts.cuts_are_settled_in_views.Goals as goal

pub returns : goal.returns
returns c = λ at order held cut closed page cell seen new was is one linked alone. cuts-in-views at held cut page cell seen new was is one linked alone
