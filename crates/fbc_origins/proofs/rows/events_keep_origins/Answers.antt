use Rattle.fbc_origins.proofs.OriginsNext.{origins-next}
use Rattle.fbc_origins.proofs.rows.events_keep_origins.Goals as goal

pub returns : goal.returns
returns c = λ shape file before moment legal order rows no_links. origins-next shape file before order rows no_links moment legal
