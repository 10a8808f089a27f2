use Rattle.fbc_console.proofs.PlayedFile.{part_file}
use Rattle.fbc_console.proofs.laws.a_part_of_a_commit_stands_as_a_whole.Goals as goal

pub returns : goal.returns
returns c reach before now steps fresh few part = part_file reach c.page_write.ensures.pages c.listed_pages.ensures.file before fresh now steps few part
