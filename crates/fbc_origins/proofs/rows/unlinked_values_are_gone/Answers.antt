use Rattle.fbc_origins.proofs.OriginsNext.{gone-after}
use Rattle.fbc_origins.proofs.rows.unlinked_values_are_gone.Goals as goal

pub returns : goal.returns
returns c = λ shape file before moment legal order rows no_links. gone-after shape file before order rows no_links moment legal
