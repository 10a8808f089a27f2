use Rattle.fbc_region.proofs.StepsLegal.{ends_performed}
use Rattle.fbc_region.proofs.laws.steps_keep_journals_legal.Goals as goal

pub returns-clause-legal : goal.returns-clause-legal
returns-clause-legal c before after file landings new who events answer asked legal rests meets done are =
    (ends_performed before after file landings new who events answer asked (record { legal = legal; rests = rests }) meets done are).legal

pub returns-clause-rests : goal.returns-clause-rests
returns-clause-rests c before after file landings new who events answer asked legal rests meets done are =
    (ends_performed before after file landings new who events answer asked (record { legal = legal; rests = rests }) meets done are).rests
