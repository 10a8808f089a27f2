use Rattle.std.proofs.Common.{arith}
use Rattle.fbc_links.proofs.WalkedPages.{cells_kept}
use Rattle.fbc_links.proofs.versions.Walked.cells.Goals as goal

pub returns-in-Some : goal.returns-in-Some
returns-in-Some c view walked =
    let n = c.args.naming in
    let known = cells_kept walked.shape walked.bytes view walked.shown walked.header walked.header_is _ n.page n.role _ (walked.kept n.page) in
    grind (arith, known)

pub returns-in_default : goal.returns-in_default
returns-in_default c view walked =
    let n = c.args.naming in
    let known = cells_kept walked.shape walked.bytes view walked.shown walked.header walked.header_is _ n.page n.role _ (walked.kept n.page) in
    grind (arith, known)
