use Rattle.fbc_world.proofs.DraftLaws.{one-owner}
use Rattle.fbc_world.proofs.laws.pages_have_one_draft.Goals as goal

pub returns : goal.returns
returns c = λ w page. one-owner (w.draft page)
