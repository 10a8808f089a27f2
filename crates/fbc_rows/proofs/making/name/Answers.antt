-- Which page is edited, and at which slot.
use Rattle.std.proofs.Common.{◌/◌, ◌%◌, [], ◌∷◌, ℕ, IfOk, subst}
use Rattle.fbc_kinds.specs.declared.edits.Edit.TheVariants as edits
use Rattle.fbc_desk.specs.Calls.{EditComesTo}
use Rattle.fbc_chains.specs.Showing.{shown_by}
use Rattle.fbc_rows.specs.Needs.{pointer_at}
use Rattle.fbc_rows.proofs.making.name.Goals as goal

pub returns-clause-made : goal.returns-clause-made
returns-clause-made c =
    subst (λ (n : ℕ). IfOk c.edit.result (EditComesTo c.args.desk.now c.edit.new.self (pointer_at (shown_by c.args.desk.now.cache) c.args.relation (c.args.new.sequence / n)) (edits.Name (c.args.new.sequence % n) c.args.new.page) (c.args.new.page ∷ []))) c.slots-slots.ensures.slots
    (subst (λ (p : ℕ). IfOk c.edit.result (EditComesTo c.args.desk.now c.edit.new.self p (edits.Name (c.args.new.sequence % c.slots-slots.result) c.args.new.page) (c.args.new.page ∷ []))) c.pointer_at-pointer.ensures c.edit.ensures.made)
