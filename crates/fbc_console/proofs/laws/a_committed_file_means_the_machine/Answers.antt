use Rattle.fbc_console.proofs.PlayedFile.{committed_file}
use Rattle.fbc_console.proofs.laws.a_committed_file_means_the_machine.Goals as goal

pub returns : goal.returns
returns c reach before now steps fresh few committed = committed_file reach c.page_write.ensures.pages c.listed_pages.ensures.file before fresh now steps few committed
