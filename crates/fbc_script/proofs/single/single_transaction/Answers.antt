use Rattle.std.proofs.Common.{◌≡◌, ◌∙◌, ap, sym, subst, length, Option}
use Rattle.std.proofs.lemmas.Result.{IfOk-weaker}
use Rattle.fbc_script.specs.declared.single.SingleTransaction.{SingleTransaction}
use Rattle.fbc_script.specs.SingleTransaction.{Tells, asked_by}
use Rattle.fbc_script.proofs.Transactions.{Tells-asked_by}
use Rattle.fbc_script.proofs.single.single_transaction.Goals as goal

pub returns-then-script-len : goal.returns-then-script-len
returns-then-script-len c =
    let script = c.args.script.now in
    let all : script.length ≡ length script.lines = c.if-script-len.true ∙ c.len.ensures in
    let told = Tells-asked_by script.lines script.length all in
    let P : Option SingleTransaction → Type 0 = λ found. Tells found script in
    let read : asked_by c.items.result.now ≡ asked_by script.lines = ap asked_by c.items.ensures in
    IfOk-weaker c.asked_by.result (λ found. found ≡ asked_by c.items.result.now) P (λ found is. subst P (sym (is ∙ read)) told) c.asked_by.ensures
