use Rattle.fbc_region.proofs.LivesEnding.{ends_died}
use Rattle.fbc_region.proofs.laws.deaths_keep_journals_legal.Goals as goal

pub returns-clause-legal : goal.returns-clause-legal
returns-clause-legal c before after file landings owner legal rests alive adds = (ends_died before after file landings (record { legal = legal; rests = rests }) owner alive adds).legal

pub returns-clause-rests : goal.returns-clause-rests
returns-clause-rests c before after file landings owner legal rests alive adds = (ends_died before after file landings (record { legal = legal; rests = rests }) owner alive adds).rests
