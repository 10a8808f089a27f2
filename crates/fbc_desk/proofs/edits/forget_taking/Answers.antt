-- What stays is what passes the test.
use Rattle.std.proofs.Common.{not, rules}
use Rattle.std.proofs.lemmas.Fn.{filter_same}
use Rattle.fbc_desk.specs.Grounds.{takes}
use Rattle.fbc_desk.proofs.edits.forget_taking.Goals as goal

pub returns-clause-items : goal.returns-clause-items
returns-clause-items c =
    filter_same _ (λ d. not (takes c.args.page d)) _ (λ x b f' h. search rules) _ _ c.retain.ensures.filtered
