use Rattle.std.proofs.Common.{◌≡◌, false, sym, ◌∙◌, arith}
use Rattle.std.specs.Str.{bytes_eq}
use Rattle.fbc_kinds.specs.Head.{any_below}
use Rattle.fbc_kinds.specs.HeaderSpelling.{entry_at, name_in, relation_count_in, has_bad_name, repeats_name, has_bad_value, has_bad_pointers, has_bad_number}
use Rattle.fbc_kinds.proofs.AnyBelow.{any_below-zero, any_below-more, any_below-found}
use Rattle.fbc_pages.proofs.content.has_bad_values.Goals as goal

pub loop-i-init : goal.loop-i-init
loop-i-init c = any_below-zero (has_bad_value c.args.bytes.now)

pub returns-then-has_bad_value : goal.returns-then-has_bad_value
returns-then-has_bad_value c = sym (any_below-found (has_bad_value c.args.bytes.now) 8 c.loop-i.i (omega arith) (sym c.has_bad_value.ensures ∙ c.if-has_bad_value.true))

pub loop-i-preserved : goal.loop-i-preserved
loop-i-preserved c = any_below-more (has_bad_value c.args.bytes.now) c.loop-i.i c.loop-i.invariant (sym c.has_bad_value.ensures ∙ c.if-has_bad_value.false)

pub returns : goal.returns
returns c =
    let none : any_below (has_bad_value c.args.bytes.now) c.loop-i.i ≡ false = c.loop-i.invariant in
    let all : c.loop-i.i ≡ 8 = omega arith in
    sym (rw all at none)
