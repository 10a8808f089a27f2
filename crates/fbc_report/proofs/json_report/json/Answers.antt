use Rattle.std.proofs.Common.{ap, ◌∙◌, ◌++◌, [], ◌∷◌}
use Rattle.std.proofs.lemmas.Result.{IfOk-weaker}
use Rattle.serde_json.specs.Written.{compact_text, has_float}
use Rattle.fbc_report.proofs.Texts.{no_float, found_text}
use Rattle.fbc_report.proofs.json_report.json.Goals as goal

pub line_of-requires : goal.line_of-requires
line_of-requires c = ap has_float c.in_ok-value.ensures ∙ no_float c.args.findings.now

pub returns : goal.returns
returns c =
    IfOk-weaker c.line_of.result _ _
    (λ text is. is ∙ ap (λ found. compact_text found ++ 10 ∷ []) c.in_ok-value.ensures ∙ found_text c.args.findings.now)
    c.line_of.ensures
