use Rattle.std.proofs.Common.{sym, ◌∙◌, arith}
use Rattle.fbc_kinds.proofs.Heads.{HasHead-fair, no_stray_relation, no_stray_sequence}
use Rattle.fbc_pages.proofs.head.read_head.Goals as goal

pub returns-clause-head : goal.returns-clause-head
returns-clause-head c =
    rw (c.read_u16.ensures, c.read_u32-2.ensures) (HasHead-fair c.args.kind c.args.page c.args.bytes.now (λ i. omega (arith, c.type_inv.bytes i)) c.requires c.if-bytes-kind.false (sym c.has_bad_head.ensures ∙ c.if-has_bad_head.false) (sym c.read_u32.ensures ∙ c.if-read_u32-page.false))

pub returns-clause-no_relation : goal.returns-clause-no_relation
returns-clause-no_relation c =
    λ low. c.read_u16.ensures ∙ no_stray_relation c.args.kind c.args.bytes.now (sym c.has_bad_head.ensures ∙ c.if-has_bad_head.false) low

pub returns-clause-no_sequence : goal.returns-clause-no_sequence
returns-clause-no_sequence c =
    λ first. c.read_u32-2.ensures ∙ no_stray_sequence c.args.kind c.args.bytes.now (sym c.has_bad_head.ensures ∙ c.if-has_bad_head.false) first
