use Rattle.std.proofs.Common.{ap, ◌∙◌, subst, ℕ}
use Rattle.std.proofs.lemmas.Result.{IfOk-weaker}
use Rattle.fbc_kinds.specs.DataSpelling.{SpellsData}
use Rattle.fbc_kinds.specs.Spelling.{listed_length}
use Rattle.fbc_spelling.proofs.KindBytes.{relation_in-data}
use Rattle.fbc_spelling.proofs.shown.data_page.Goals as goal

pub returns-clause-found : goal.returns-clause-found
returns-clause-found c =
    IfOk-weaker c.decode_data.result _ _
    (λ page is.
    let P : ℕ → Type 0 = λ greatest. SpellsData c.args.shape.now.size greatest page c.args.bytes.now in
    subst P (c.listed_length-greatest.ensures.value ∙ ap (listed_length c.args.shape.now) (c.read_u16.ensures ∙ relation_in-data _ _ page c.args.bytes.now is)) is)
    c.decode_data.ensures.found
