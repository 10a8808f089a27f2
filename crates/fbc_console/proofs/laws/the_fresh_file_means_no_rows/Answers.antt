use Rattle.fbc_console.proofs.PlayedFile.{fresh_file}
use Rattle.fbc_console.proofs.laws.the_fresh_file_means_no_rows.Goals as goal

pub returns : goal.returns
returns c reach bytes fresh = fresh_file reach c.listed_pages.ensures.file bytes fresh
