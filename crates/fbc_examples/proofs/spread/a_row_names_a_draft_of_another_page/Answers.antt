use Rattle.std.proofs.Common.{refl}
use Rattle.fbc_examples.proofs.FarVersions.{legal_far_commit}
use Rattle.fbc_examples.proofs.spread.a_row_names_a_draft_of_another_page.Goals as goal

pub returns-clause-legal : goal.returns-clause-legal
returns-clause-legal c = legal_far_commit

pub returns-clause-draft : goal.returns-clause-draft
returns-clause-draft c = refl

pub returns-clause-file : goal.returns-clause-file
returns-clause-file c = refl
