use Rattle.fbc_reach.proofs.Contents.{whole_read, broken_read}
use Rattle.fbc_reach.proofs.content.content_shown.Goals as goal

pub returns-in_ok-content_of-in-Ok : goal.returns-in_ok-content_of-in-Ok
returns-in_ok-content_of-in-Ok c =
    whole_read c.args.shape.now c.args.number c.args.bytes.now c.requires.shape.size c.in-Ok.page c.in_ok-content_of-in-Ok.field-0
    c.in-Ok.ensures.found c.in-Ok.ensures.exact c.in_ok-content_of-in-Ok.ensures

pub returns-in_ok-rule_of-in-Err : goal.returns-in_ok-rule_of-in-Err
returns-in_ok-rule_of-in-Err c =
    broken_read c.args.shape.now c.args.number c.args.bytes.now c.requires.shape.size c.in-Err.fault c.in_ok-rule_of-in-Err.field-0
    c.in_ok-rule_of-in-Err.ensures c.in-Err.ensures.exact
