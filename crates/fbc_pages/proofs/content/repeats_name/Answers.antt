use Rattle.std.proofs.Common.{◌≡◌, false, sym, ◌∙◌, arith}
use Rattle.std.specs.Str.{bytes_eq}
use Rattle.fbc_kinds.specs.Head.{any_below}
use Rattle.fbc_kinds.specs.HeaderSpelling.{entry_at, name_in, relation_count_in, has_bad_name, repeats_name, has_bad_value, has_bad_pointers, has_bad_number}
use Rattle.fbc_kinds.proofs.AnyBelow.{any_below-zero, any_below-more, any_below-found}
use Rattle.fbc_pages.proofs.content.repeats_name.Goals as goal

pub loop-j-init : goal.loop-j-init
loop-j-init c = any_below-zero (λ k. bytes_eq (name_in (entry_at c.args.bytes.now k)) (name_in (entry_at c.args.bytes.now c.args.i)))

pub returns-then-have_one_name : goal.returns-then-have_one_name
returns-then-have_one_name c = sym (any_below-found (λ k. bytes_eq (name_in (entry_at c.args.bytes.now k)) (name_in (entry_at c.args.bytes.now c.args.i))) c.args.i c.loop-j.j (omega arith) (sym c.have_one_name.ensures ∙ c.if-have_one_name.true))

pub loop-j-preserved : goal.loop-j-preserved
loop-j-preserved c = any_below-more (λ k. bytes_eq (name_in (entry_at c.args.bytes.now k)) (name_in (entry_at c.args.bytes.now c.args.i))) c.loop-j.j c.loop-j.invariant (sym c.have_one_name.ensures ∙ c.if-have_one_name.false)

pub returns : goal.returns
returns c =
    let none : any_below (λ k. bytes_eq (name_in (entry_at c.args.bytes.now k)) (name_in (entry_at c.args.bytes.now c.args.i))) c.loop-j.j ≡ false = c.loop-j.invariant in
    let all : c.loop-j.j ≡ c.args.i = omega arith in
    sym (rw all at none)
