use Rattle.std.proofs.Common.{◌≡◌, false, sym, ◌∙◌, arith}
use Rattle.std.specs.Str.{bytes_eq}
use Rattle.fbc_kinds.specs.Head.{any_below}
use Rattle.fbc_kinds.specs.HeaderSpelling.{entry_at, name_in, relation_count_in, has_bad_name, repeats_name, has_bad_value, has_bad_pointers, has_bad_number}
use Rattle.fbc_kinds.proofs.AnyBelow.{any_below-zero, any_below-more, any_below-found}
use Rattle.fbc_pages.proofs.content.any_repeated_name.Goals as goal

pub loop-i-init : goal.loop-i-init
loop-i-init c = any_below-zero (repeats_name c.args.bytes.now)

pub returns-then-repeats_name : goal.returns-then-repeats_name
returns-then-repeats_name c = sym (any_below-found (repeats_name c.args.bytes.now) (relation_count_in c.args.bytes.now) c.loop-i.i (omega arith) (sym c.repeats_name.ensures ∙ c.if-repeats_name.true))

pub loop-i-preserved : goal.loop-i-preserved
loop-i-preserved c = any_below-more (repeats_name c.args.bytes.now) c.loop-i.i c.loop-i.invariant (sym c.repeats_name.ensures ∙ c.if-repeats_name.false)

pub returns : goal.returns
returns c =
    let none : any_below (repeats_name c.args.bytes.now) c.loop-i.i ≡ false = c.loop-i.invariant in
    let all : c.loop-i.i ≡ relation_count_in c.args.bytes.now = omega (arith, c.relation_count-count.ensures) in
    sym (rw all at none)
