use Rattle.std.proofs.Common.{◌∷◌}
use Rattle.fbc_firm_facts.proofs.SeenOn.{seen-on}
use Rattle.fbc_firm_facts.proofs.seen.events_of_others_leave_what_is_seen.Goals as goal

pub returns : goal.returns
returns c = λ shape file before moment owner relation row of_shape sound legal apart.
    seen-on shape file before moment owner relation row
    (c.legal_histories_are_simulated.ensures shape file before of_shape sound legal.0)
    (c.legal_histories_are_simulated.ensures shape file (moment ∷ before) of_shape sound legal) apart
