use Rattle.std.proofs.Common.{arith}
use Rattle.fbc_links.proofs.WalkedPages.{back_kept}
use Rattle.fbc_links.proofs.versions.Walked.back_value.Goals as goal

pub returns-in_err-index-clause-back : goal.returns-in_err-index-clause-back
returns-in_err-index-clause-back c view walked =
    let page = c.args.page in
    let known = back_kept walked.shape walked.bytes view walked.shown walked.header walked.header_is _ c.args.relation c.args.number page c.args.cell _ (walked.kept page) in
    grind (arith, known)

pub returns-in_err-smaller_back-clause-back : goal.returns-in_err-smaller_back-clause-back
returns-in_err-smaller_back-clause-back c view walked =
    let page = c.args.page in
    let known = back_kept walked.shape walked.bytes view walked.shown walked.header walked.header_is _ c.args.relation c.args.number page c.args.cell _ (walked.kept page) in
    grind (arith, known)

pub returns-then-not-is_of_relation-clause-back : goal.returns-then-not-is_of_relation-clause-back
returns-then-not-is_of_relation-clause-back c view walked =
    let page = c.args.page in
    let known = back_kept walked.shape walked.bytes view walked.shown walked.header walked.header_is _ c.args.relation c.args.number page c.args.cell _ (walked.kept page) in
    grind (arith, known)

pub returns-clause-back : goal.returns-clause-back
returns-clause-back c view walked =
    let page = c.args.page in
    let known = back_kept walked.shape walked.bytes view walked.shown walked.header walked.header_is _ c.args.relation c.args.number page c.args.cell _ (walked.kept page) in
    grind (arith, known)
