use Rattle.std.proofs.Common.{◌+◌, ◌++◌, [], ◌∷◌, length, ap, sym, ◌∙◌, arith}
use Rattle.fbc_console.specs.StoredPages.{values_in}
use Rattle.fbc_console.proofs.StoreLemmas.{length-cells, values-inserted, IsStore-inserted, has_room}
use Rattle.fbc_console.proofs.store.Store.insert.Goals as goal

pub set-requires : goal.set-requires
set-requires c = omega (arith, length-cells c.self.inside c.self.invariant, has_room c.self.inside c.args.self.now c.self.view_is c.requires.room c.self.invariant)

pub invariant_of-self : goal.invariant_of-self
invariant_of-self c = IsStore-inserted c.self.inside c.args.value c.set.new.self c.set.ensures c.self.invariant (has_room c.self.inside c.args.self.now c.self.view_is c.requires.room c.self.invariant) c.requires.short

pub returns-clause-row : goal.returns-clause-row
returns-clause-row c = sym c.self.invariant.rows_are ∙ ap length c.self.view_is

pub returns-clause-values : goal.returns-clause-values
returns-clause-values c =
    ap (values_in (c.self.inside.rows + 1)) c.set.ensures
    ∙ values-inserted c.self.inside c.args.value c.self.invariant (has_room c.self.inside c.args.self.now c.self.view_is c.requires.room c.self.invariant)
    ∙ ap (λ values. values ++ c.args.value ∷ []) c.self.view_is
