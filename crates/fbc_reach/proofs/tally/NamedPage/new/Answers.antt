use Rattle.std.proofs.Common.{sym}
use Rattle.fbc_reach.proofs.Tallied.{in_no_role, walked_for_none}
use Rattle.fbc_reach.proofs.tally.NamedPage.new.Goals as goal

pub returns-clause-judged : goal.returns-clause-judged
returns-clause-judged c size page done none = record {
  walked = sym (walked_for_none done page _ none);
  kind = sym (in_no_role done page _ none);
  relation = sym (in_no_role done page _ none);
  sequence = sym (in_no_role done page _ none);
  twice = sym (in_no_role done page _ none);
  future = sym (in_no_role done page _ none);
}
