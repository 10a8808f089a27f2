use Rattle.std.proofs.Common.{◌≡◌, ◌∙◌, ◌-◌, ◌≤◌, ◌++◌, [], ◌∷◌, length, take, drop, true, false, Some, None, ap, sym, subst, arith}
use Rattle.std.proofs.Common.{rules}
use Rattle.std.proofs.lemmas.Grind.{common_steps}
use Rattle.fbc_command_line.specs.OptionReading.{first_of}
use Rattle.fbc_command_line.specs.Options.{is_given}
use Rattle.fbc_command_line.proofs.EachOption.{IsReadSoFar, nothing_read, all_read, none_next, twice_next, one_more}
use Rattle.fbc_command_line.proofs.options.options_of.Goals as goal

pub loop-at-init : goal.loop-at-init
loop-at-init c = subst (IsReadSoFar c.args.table.now c.args.words.now 0) (sym (c.new-given.ensures ∙ c.new.ensures.items)) (nothing_read c.args.table.now c.args.words.now)

pub loop-at-preserved : goal.loop-at-preserved
loop-at-preserved c =
    let rest : take (length c.args.words.now - c.loop-at.at) (drop c.loop-at.at c.args.words.now) ≡ drop c.loop-at.at c.args.words.now = grind (arith, common_steps) in
    let found : first_of c.args.table.now (drop c.loop-at.at c.args.words.now) ≡ Some c.in-Some.first = ap (first_of c.args.table.now) (sym rest) ∙ sym c.first_of.ensures.first ∙ c.in-Some.is in
    let fresh : is_given c.loop-at.given c.in-Some.first.given.option ≡ false = cc in
    let pushed : c.push.new.self ≡ c.loop-at.given ++ c.in-Some.first.given ∷ [] = c.in_ok-push.ensures.ok in
    subst (IsReadSoFar c.args.table.now c.args.words.now _) (sym pushed)
    (one_more c.args.table.now c.args.words.now c.loop-at.at c.loop-at.given c.loop-at.invariant (search rules) c.in-Some.first found fresh
    (subst (λ words. c.in-Some.first.words ≤ length words) rest c.in-Some.ensures.within))

pub returns-in_default : goal.returns-in_default
returns-in_default c =
    let rest : take (length c.args.words.now - c.loop-at.at) (drop c.loop-at.at c.args.words.now) ≡ drop c.loop-at.at c.args.words.now = grind (arith, common_steps) in
    let none : first_of c.args.table.now (drop c.loop-at.at c.args.words.now) ≡ None = ap (first_of c.args.table.now) (sym rest) ∙ sym c.first_of.ensures.first ∙ c.in_default.is in
    none_next c.args.table.now c.args.words.now c.loop-at.at c.loop-at.given c.loop-at.invariant (search rules) none

pub returns-then-is_given : goal.returns-then-is_given
returns-then-is_given c =
    let rest : take (length c.args.words.now - c.loop-at.at) (drop c.loop-at.at c.args.words.now) ≡ drop c.loop-at.at c.args.words.now = grind (arith, common_steps) in
    let found : first_of c.args.table.now (drop c.loop-at.at c.args.words.now) ≡ Some c.in-Some.first = ap (first_of c.args.table.now) (sym rest) ∙ sym c.first_of.ensures.first ∙ c.in-Some.is in
    let again : is_given c.loop-at.given c.in-Some.first.given.option ≡ true = cc in
    twice_next c.args.table.now c.args.words.now c.loop-at.at c.loop-at.given c.loop-at.invariant (search rules) c.in-Some.first found again

pub returns : goal.returns
returns c = all_read c.args.table.now c.args.words.now c.loop-at.at c.loop-at.given c.loop-at.invariant (search rules)
