use Rattle.fbc_spelling.proofs.Shows.{none_is_shown, shown_is}
use Rattle.fbc_region.proofs.ReadAndWritten.{seen_there}
use Rattle.fbc_region.proofs.page_laws.read_pages_are_those_kept.Goals as goal

pub returns-clause-shown : goal.returns-clause-shown
returns-clause-shown c shape bytes image view page count content sized gives fits read shows =
    shown_is shape page image content (view page) sized shows (seen_there shape page count bytes image view gives fits read)

pub returns-clause-broken : goal.returns-clause-broken
returns-clause-broken c shape bytes image view page count rule sized gives fits read broken =
    none_is_shown shape page image rule (view page) sized broken (seen_there shape page count bytes image view gives fits read)
