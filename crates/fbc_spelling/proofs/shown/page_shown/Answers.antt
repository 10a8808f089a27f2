use Rattle.std.proofs.Common.{sym, subst, Option, arith}
use Rattle.fbc_kinds.specs.declared.rules.Rule.{Rule}
use Rattle.fbc_kinds.specs.Head.{Gives}
use Rattle.fbc_kinds.specs.declared.pages.Page.TheVariants as kind
use Rattle.fbc_spelling.proofs.KindBytes.{blank_rule}
use Rattle.fbc_spelling.proofs.Within.{within_limits}
use Rattle.fbc_spelling.proofs.shown.page_shown.Goals as goal

pub returns-in_default-clause-exact : goal.returns-in_default-clause-exact
returns-in_default-clause-exact c =
    let P : Option Rule → Type 0 = λ broken. Gives c.blank_page.result broken in
    subst P (sym (blank_rule c.args.shape.now c.args.number c.args.bytes.now (omega arith) (omega arith) (omega arith) (omega arith) (omega arith))) c.blank_page.ensures.exact

pub returns-in_ok-data_page-in-5-clause-limits : goal.returns-in_ok-data_page-in-5-clause-limits
returns-in_ok-data_page-in-5-clause-limits c =
    within_limits c.args.shape.now (kind.Data c.in_ok-data_page-in-5.field-0) c.args.bytes.now c.requires.shape c.in_ok-data_page-in-5.ensures.found
