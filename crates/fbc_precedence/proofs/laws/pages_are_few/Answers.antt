use Rattle.std.proofs.lemmas.List.Elements.{recursion_from_All}
use Rattle.fbc_precedence.proofs.Standing.{IsAmong, pages-few}
use Rattle.fbc_precedence.proofs.laws.pages_are_few.Goals as goal

pub returns : goal.returns
returns c pairs pages all = pages-few pages pairs (recursion_from_All (IsAmong pages) pairs all)
