use Rattle.std.proofs.Common.{◌≤◌, ◌++◌, ℕ, List, length, refl, sym, subst, ap, ◌∙◌, arith}
use Rattle.std.proofs.lemmas.Option.{slice_get_read}
use Rattle.fbc_reach.specs.declared.namings.Role.TheVariants as role
use Rattle.fbc_reach.specs.Walk.{named_in_row}
use Rattle.fbc_reach.proofs.Rows.{relations_step}
use Rattle.fbc_reach.proofs.namings.push_relations.Goals as goal

pub push_pointers-requires : goal.push_pointers-requires
push_pointers-requires c =
    let stands = slice_get_read c.args.relations.now (length c.args.relations.now) c.loop-number.number c.index-relations-number.result refl c.loop-number-test.true c.index-relations-number.is in
    let P : List ℕ → Type 0 = λ pointers. length pointers ≤ 4 in
    subst P (sym c.items.ensures) (c.requires.each c.loop-number.number c.index-relations-number.result stands).pointers_to

pub loop-number-preserved : goal.loop-number-preserved
loop-number-preserved c =
    relations_step c.args.namings.now.items c.loop-number.namings.items c.push_pointers.new.namings.items c.args.relations.now c.loop-number.number c.index-relations-number.result
    (omega arith) c.index-relations-number.is c.loop-number.invariant
    (c.in_ok-push_pointers.ensures ∙ ap (λ pointers. c.loop-number.namings.items ++ named_in_row (role.Pointer c.loop-number.number) 0 pointers) c.items.ensures)
