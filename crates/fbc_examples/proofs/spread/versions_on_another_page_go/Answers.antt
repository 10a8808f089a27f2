use Rattle.fbc_examples.proofs.SpreadRows.{far_cut, legal_far_writes, row_leads, unlinked_by_row}
use Rattle.fbc_examples.proofs.spread.versions_on_another_page_go.Goals as goal

pub returns-clause-legal : goal.returns-clause-legal
returns-clause-legal c = legal_far_writes

pub returns-clause-cut : goal.returns-clause-cut
returns-clause-cut c = far_cut

pub returns-clause-row : goal.returns-clause-row
returns-clause-row c = row_leads

pub returns-clause-cleared : goal.returns-clause-cleared
returns-clause-cleared c = unlinked_by_row
