-- The pairs that stay are those that pass the test.
use Rattle.std.proofs.Common.{rules}
use Rattle.std.proofs.lemmas.Fn.{filter_same}
use Rattle.fbc_precedence.specs.Precedence.{is_without}
use Rattle.fbc_precedence.proofs.pages.remove_page.Goals as goal

pub returns-clause-items : goal.returns-clause-items
returns-clause-items c =
    filter_same _ (is_without c.args.page) _ (λ x b f' h. search rules) _ _ c.retain.ensures.filtered
