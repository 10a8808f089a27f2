-- A pointer page that stands elsewhere is damaged.
use Rattle.std.proofs.Common.{ℕ, subst}
use Rattle.fbc_cache.specs.declared.readers.Place.{Place}
use Rattle.fbc_chains.specs.Pages.{LooksAt}
use Rattle.fbc_chains.specs.Showing.{shown_by}
use Rattle.fbc_rows.specs.Needs.{pointer_at}
use Rattle.fbc_rows.proofs.Damaged.{pointer-damages}
use Rattle.fbc_rows.proofs.needs.look_at_pointer.Goals as goal

pub returns-clause-damages : goal.returns-clause-damages
returns-clause-damages c =
    pointer-damages c.args.desk.now c.look_at.new.desk c.args.relation c.args.pointer c.look_at.result
    (subst (λ (due : Place). LooksAt (shown_by c.args.desk.now.cache) (pointer_at (shown_by c.args.desk.now.cache) c.args.relation c.args.pointer) due c.look_at.result) c.pointer_place.ensures
    (subst (λ (page : ℕ). LooksAt (shown_by c.args.desk.now.cache) page c.pointer_place.result c.look_at.result) c.pointer_at-page.ensures c.look_at.ensures.held))
    c.look_at.ensures.same
