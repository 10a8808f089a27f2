use Rattle.std.proofs.Common.{sym}
use Rattle.fbc_validator.proofs.validating.check_pages.Goals as goal

pub returns-clause-found : goal.returns-clause-found
returns-clause-found g c bytes view told shown is =
    c.in_ok-findings.ensures.found c.args.shape.now bytes view (sym c.requires.size) shown is c.in_ok-visited.ensures.next
    (c.in_ok-visited.ensures.walked bytes view told shown is) (c.in_ok-visited.ensures.found bytes view told shown is)
