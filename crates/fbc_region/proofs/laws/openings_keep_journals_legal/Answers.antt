use Rattle.fbc_region.proofs.LivesEnding.{ends_opened}
use Rattle.fbc_region.proofs.laws.openings_keep_journals_legal.Goals as goal

pub returns-clause-legal : goal.returns-clause-legal
returns-clause-legal c before after file landings locks legal rests none adds = (ends_opened before after file landings (record { legal = legal; rests = rests }) locks none adds).legal

pub returns-clause-rests : goal.returns-clause-rests
returns-clause-rests c before after file landings locks legal rests none adds = (ends_opened before after file landings (record { legal = legal; rests = rests }) locks none adds).rests
