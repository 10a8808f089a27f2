use Rattle.fbc_kinds.proofs.HeaderLaws.{header-one_spelling, header-one_page}
use Rattle.fbc_kinds.proofs.HeaderUnbroken.{SpellsHeader-unbroken}
use Rattle.fbc_pages.proofs.laws.one_header.Goals as goal

pub returns : goal.returns
returns c = record { spelling = header-one_spelling; unbroken = SpellsHeader-unbroken; page = header-one_page }
