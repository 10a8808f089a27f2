use Rattle.std.proofs.Common.{List, ℕ, sym, subst, ◌∙◌}
use Rattle.fbc_kinds.specs.declared.rules.Rule.{Rule}
use Rattle.fbc_validator.specs.Damage.{AreDamages}
use Rattle.fbc_validator.proofs.KeptDamages.{kept_damages}
use Rattle.fbc_validator.proofs.damages.damages.Goals as goal

pub returns : goal.returns
returns c shape bytes view shown is next kept are =
    let P : List (ℕ × Rule) → Type 0 = AreDamages shape bytes view in
    subst P (sym (c.new.ensures ∙ c.in_ok-found.ensures))
    (kept_damages shape bytes view shown c.args.header.now is c.args.tally.now next kept c.args.chains.now are c.deref.result.now
    (rw c.deref.ensures.value c.in_ok-pages.ensures.rise) (rw c.deref.ensures.value c.in_ok-pages.ensures.each))
