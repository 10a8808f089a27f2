use Rattle.fbc_version_edits.proofs.KeptNames.{data_names, made_clear, made_put, tip_names}
use Rattle.fbc_version_edits.proofs.edits.row_edits_keep_names.Goals as goal

pub returns-clause-put : goal.returns-clause-put
returns-clause-put c shape view number cell new content put = let made = made_put put in data_names view number put.page made.0 content put.stands made.1

pub returns-clause-clear : goal.returns-clause-clear
returns-clause-clear c shape view number cell content clear = let made = made_clear clear in data_names view number clear.page made.0 content clear.stands made.1

pub returns-clause-mark : goal.returns-clause-mark
returns-clause-mark c shape view number marked state content edit = tip_names shape view number marked state content edit.fits
