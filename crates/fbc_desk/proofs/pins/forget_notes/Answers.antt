-- What stays is what passes the test.
use Rattle.std.proofs.Common.{not, rules}
use Rattle.std.proofs.lemmas.Fn.{filter_same}
use Rattle.fbc_notes.specs.Notes.{support_of}
use Rattle.fbc_desk.specs.Calls.{is_supported_by}
use Rattle.fbc_desk.proofs.pins.forget_notes.Goals as goal

pub returns-clause-items : goal.returns-clause-items
returns-clause-items c =
    filter_same _ (λ n. not (is_supported_by c.args.page (support_of n))) _ (λ x b f' h. search rules) _ _ c.retain.ensures.filtered
