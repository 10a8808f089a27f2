use Rattle.std.proofs.Common.{◌≡◌, ◌∙◌, sym, ap, is_some, not, true}
use Rattle.fbc_kinds.specs.Chain.{see}
use Rattle.fbc_kinds.specs.Machine.{standing_versions, is_held}
use Rattle.fbc_machine.specs.Shown.{shown}
use Rattle.fbc_machine.proofs.Rows.{conflicts, does}
use Rattle.fbc_machine.proofs.steps.refusal.Goals as goal

pub returns-then-contains : goal.returns-then-contains
returns-then-contains c =
    let sees : is_some (see (standing_versions (shown c.args.machine.now) c.args.relation c.args.row) (is_held c.args.snapshot.now)) ≡ true = ap is_some (sym c.seen.ensures) ∙ c.is_none.ensures ∙ ap not c.if-is_none.false in
    does c.args.snapshot.now (standing_versions (shown c.args.machine.now) c.args.relation c.args.row) c.in-Some.newest (sym c.in-Some.ensures) sees (sym c.contains.ensures.value ∙ c.if-contains.true)

pub returns-else-contains : goal.returns-else-contains
returns-else-contains c =
    let sees : is_some (see (standing_versions (shown c.args.machine.now) c.args.relation c.args.row) (is_held c.args.snapshot.now)) ≡ true = ap is_some (sym c.seen.ensures) ∙ c.is_none.ensures ∙ ap not c.if-is_none.false in
    conflicts c.args.snapshot.now (standing_versions (shown c.args.machine.now) c.args.relation c.args.row) c.in-Some.newest (sym c.in-Some.ensures) sees (sym c.contains.ensures.value ∙ c.if-contains.false)
