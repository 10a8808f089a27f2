-- Both tests passed.
use Rattle.fbc_desk.proofs.desk.Desk.may_be_named.Goals as goal

pub returns-then-is_ready : goal.returns-then-is_ready
returns-then-is_ready c =
    ((λ passes. record { ready = c.is_ready.ensures.0 c.if-is_ready.true; in_time = c.is_named_in_time.ensures.0 passes }), (λ may. c.is_named_in_time.ensures.1 may.in_time))
