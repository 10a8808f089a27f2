-- Both tests passed.
use Rattle.fbc_desk.proofs.desk.Desk.may_name.Goals as goal

pub returns-then-is_empty_slot : goal.returns-then-is_empty_slot
returns-then-is_empty_slot c =
    ((λ passes. record { empty = c.is_empty_slot.ensures.0 c.if-is_empty_slot.true; may_be_named = c.may_be_named.ensures.0 passes }), (λ may. c.may_be_named.ensures.1 may.may_be_named))
