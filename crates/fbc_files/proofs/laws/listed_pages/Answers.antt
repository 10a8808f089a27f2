use Rattle.fbc_files.proofs.FirstPage.{BeginsWith-pages, IsFile-pages}
use Rattle.fbc_files.proofs.PageWrites.{IsViewOf-pages}
use Rattle.fbc_files.proofs.laws.listed_pages.Goals as goal

pub returns-clause-by_number : goal.returns-clause-by_number
returns-clause-by_number c = IsViewOf-pages

pub returns-clause-file : goal.returns-clause-file
returns-clause-file c = IsFile-pages

pub returns-clause-begins : goal.returns-clause-begins
returns-clause-begins c = BeginsWith-pages
