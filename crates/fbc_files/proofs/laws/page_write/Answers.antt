use Rattle.fbc_files.proofs.PageWrites.{IsViewOf-written, ShowsPages-written, page_elsewhere}
use Rattle.fbc_files.proofs.laws.page_write.Goals as goal

pub returns-clause-elsewhere : goal.returns-clause-elsewhere
returns-clause-elsewhere c = page_elsewhere

pub returns-clause-view : goal.returns-clause-view
returns-clause-view c = IsViewOf-written

pub returns-clause-pages : goal.returns-clause-pages
returns-clause-pages c = ShowsPages-written
