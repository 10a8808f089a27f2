use Rattle.fbc_version_edits.proofs.AllowedPuts.{clear_allowed, put_allowed}
use Rattle.fbc_version_edits.proofs.edits.cell_edits_have_forms.Goals as goal

pub returns-clause-put : goal.returns-clause-put
returns-clause-put c shape view number cell new content is = put_allowed shape view number cell new content is

pub returns-clause-clear : goal.returns-clause-clear
returns-clause-clear c shape view number cell content is = clear_allowed shape view number cell content is
