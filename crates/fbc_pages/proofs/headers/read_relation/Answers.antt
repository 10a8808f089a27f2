use Rattle.std.proofs.Common.{arith, ap, ◌∙◌}
use Rattle.fbc_kinds.proofs.HeaderRules.{IsRelation-read, SpellsRelation-read}
use Rattle.fbc_pages.proofs.headers.read_relation.Goals as goal

pub returns-clause-relation : goal.returns-clause-relation
returns-clause-relation c =
    let counted = c.in_ok-pointers.ensures.count ∙ c.read_u16.ensures in
    let numbers = rw c.read_u16.ensures at c.in_ok-pointers.ensures.numbers in
    rw (c.new.ensures, c.name_in.ensures, c.read_u16-2.ensures, c.new-2.ensures) (IsRelation-read c.args.entry.now c.in_ok-pointers.pointers.items (λ i. omega (arith, c.type_inv.entry i)) c.requires counted numbers)

pub returns-clause-spelled : goal.returns-clause-spelled
returns-clause-spelled c =
    let counted = c.in_ok-pointers.ensures.count ∙ c.read_u16.ensures in
    let numbers = rw c.read_u16.ensures at c.in_ok-pointers.ensures.numbers in
    rw (c.new.ensures, c.name_in.ensures, c.read_u16-2.ensures, c.new-2.ensures) (SpellsRelation-read c.args.entry.now c.in_ok-pointers.pointers.items (λ i. omega (arith, c.type_inv.entry i)) c.requires counted numbers)
