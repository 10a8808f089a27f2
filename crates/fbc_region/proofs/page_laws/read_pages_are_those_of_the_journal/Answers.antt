use Rattle.std.proofs.Common.{subst}
use Rattle.fbc_kinds.specs.Limits.{IsPageSize}
use Rattle.fbc_spelling.proofs.Shows.{none_is_shown, shown_is}
use Rattle.fbc_region.proofs.ReadAndWritten.{seen_in_journal}
use Rattle.fbc_region.proofs.page_laws.read_pages_are_those_of_the_journal.Goals as goal

pub returns-clause-shown : goal.returns-clause-shown
returns-clause-shown c size page count who bytes journal file landings events image content whole lawful fits read shows =
    shown_is journal.shape page image content _ (subst IsPageSize lawful.sized whole) shows (seen_in_journal size page count bytes journal file landings who events image lawful fits read)

pub returns-clause-broken : goal.returns-clause-broken
returns-clause-broken c size page count who bytes journal file landings events image rule whole lawful fits read broken =
    none_is_shown journal.shape page image rule _ (subst IsPageSize lawful.sized whole) broken (seen_in_journal size page count bytes journal file landings who events image lawful fits read)
