use Rattle.fbc_files.proofs.HeaderLast.{not_recognised, written_whole}
use Rattle.fbc_files.proofs.new_laws.header_comes_last.Goals as goal

pub returns-clause-whole : goal.returns-clause-whole
returns-clause-whole c = written_whole

pub returns-clause-before : goal.returns-clause-before
returns-clause-before c = not_recognised
