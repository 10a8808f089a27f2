use Rattle.std.proofs.Common.{◌≡◌, false, sym, ◌∙◌, arith}
use Rattle.std.specs.Str.{bytes_eq}
use Rattle.fbc_kinds.specs.Head.{any_below}
use Rattle.fbc_kinds.specs.HeaderSpelling.{entry_at, name_in, relation_count_in, has_bad_name, repeats_name, has_bad_value, has_bad_pointers, has_bad_number}
use Rattle.fbc_kinds.proofs.AnyBelow.{any_below-zero, any_below-more, any_below-found}
use Rattle.fbc_pages.proofs.content.any_bad_number.Goals as goal

pub loop-i-init : goal.loop-i-init
loop-i-init c = any_below-zero (has_bad_number c.args.used c.args.from c.args.bytes.now)

pub returns-then-has_bad_number : goal.returns-then-has_bad_number
returns-then-has_bad_number c = sym (any_below-found (has_bad_number c.args.used c.args.from c.args.bytes.now) c.args.limit c.loop-i.i (omega arith) (sym c.has_bad_number.ensures ∙ c.if-has_bad_number.true))

pub loop-i-preserved : goal.loop-i-preserved
loop-i-preserved c = any_below-more (has_bad_number c.args.used c.args.from c.args.bytes.now) c.loop-i.i c.loop-i.invariant (sym c.has_bad_number.ensures ∙ c.if-has_bad_number.false)

pub returns : goal.returns
returns c =
    let none : any_below (has_bad_number c.args.used c.args.from c.args.bytes.now) c.loop-i.i ≡ false = c.loop-i.invariant in
    let all : c.loop-i.i ≡ c.args.limit = omega arith in
    sym (rw all at none)
