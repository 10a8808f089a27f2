use Rattle.std.specs.List.{Contains}
use Rattle.std.proofs.lemmas.List.Elements.{All-contains_itself}
use Rattle.fbc_buffers.proofs.Found.{buffer_of-all, buffer_of-page}
use Rattle.fbc_buffers.proofs.laws.found_is_of_the_page.Goals as goal

pub returns-clause-page : goal.returns-clause-page
returns-clause-page c = buffer_of-page

pub returns-clause-there : goal.returns-clause-there
returns-clause-there c = λ held page. buffer_of-all (Contains held) held page (All-contains_itself held)
