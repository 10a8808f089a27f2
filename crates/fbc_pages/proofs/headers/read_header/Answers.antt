use Rattle.std.proofs.Common.{◌∙◌, arith}
use Rattle.fbc_kinds.proofs.Heads.{header_head}
use Rattle.fbc_kinds.proofs.HeaderReading.{counts_pass, header_passes, SpellsHeader-read}
use Rattle.fbc_pages.proofs.headers.read_header.Goals as goal

pub read_relations-requires-clause-relations : goal.read_relations-requires-clause-relations
read_relations-requires-clause-relations c =
    (counts_pass c.args.size c.args.bytes.now (header_passes c.args.size c.args.bytes.now c.requires.unbroken).counts).relations_to

pub read_relations-requires-clause-unbroken : goal.read_relations-requires-clause-unbroken
read_relations-requires-clause-unbroken c = (header_passes c.args.size c.args.bytes.now c.requires.unbroken).relations

pub read_numbers-requires : goal.read_numbers-requires
read_numbers-requires c =
    let counts = counts_pass c.args.size c.args.bytes.now (header_passes c.args.size c.args.bytes.now c.requires.unbroken).counts in
    omega (arith, counts.tips_to, c.read_u16.ensures)

pub returns-clause-page : goal.returns-clause-page
returns-clause-page c =
    let passes = header_passes c.args.size c.args.bytes.now c.requires.unbroken in
    let counted = c.in_ok-tips.ensures.count ∙ c.read_u16.ensures in
    let numbers = rw c.read_u16.ensures at c.in_ok-tips.ensures.numbers in
    rw (c.read_u32.ensures, c.read_u16-2.ensures, c.read_u32-2.ensures, c.new.ensures, c.new-2.ensures)
    (SpellsHeader-read c.args.size c.in_ok-relations.relations.items c.in_ok-tips.tips.items c.args.bytes.now (omega arith) (λ i. omega (arith, c.type_inv.bytes i)) c.requires.length
    (header_head c.args.bytes.now (λ i. omega (arith, c.type_inv.bytes i)) (omega arith) passes.head)
    passes.front passes.content c.in_ok-relations.ensures.count c.in_ok-relations.ensures.relations counted numbers)
