use Rattle.std.proofs.Common.{◌+◌, length, ap, sym, ◌∙◌, arith}
use Rattle.std.proofs.lemmas.List.{length_push}
use Rattle.fbc_kinds.specs.HeaderSpelling.{IsRead}
use Rattle.fbc_kinds.proofs.HeaderRules.{relations_pass, IsFairEntry-used}
use Rattle.fbc_pages.proofs.Reading.{items_more}
use Rattle.fbc_pages.proofs.headers.read_relations.Goals as goal

pub read_relation-requires : goal.read_relation-requires
read_relation-requires c =
    rw c.entry_at.ensures.entry (IsFairEntry-used c.args.bytes.now c.loop-i.i (omega arith) (relations_pass c.args.bytes.now c.requires.unbroken) (omega (arith, c.relation_count-count.ensures)) (omega (arith, c.relation_count-count.ensures)))

pub loop-i-preserved : goal.loop-i-preserved
loop-i-preserved c =
    let added = c.in_ok-push.ensures.items in
    let old = c.loop-i.relations.items in
    let relation = c.in_ok-read_relation.field-0 in
    let spelled = rw c.entry_at.ensures.entry at c.in_ok-read_relation.ensures.spelled in
    let here : IsRead c.args.bytes.now c.loop-i.i relation = record { fits = c.in_ok-read_relation.ensures.relation; spelled = spelled } in
    record {
      count = ap length added ∙ (length_push old relation ∙ ap (λ n. n + 1) c.loop-i.invariant.count);
      relations = rw added (items_more (IsRead c.args.bytes.now) old relation (rw c.loop-i.invariant.count here) c.loop-i.invariant.relations);
    }
