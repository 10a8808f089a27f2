-- What the holding of the transaction inventory pages came to.
use Rattle.std.proofs.Common.{◌≡◌, ℕ, Ok, subst}
use Rattle.fbc_desk.specs.Desk.{DeskState}
use Rattle.fbc_tip.specs.declared.inventories.TipStep.{TipStep}
use Rattle.fbc_tip.specs.Inventories.{HoldsOn, last_hold}

pub turns-of : (before after : DeskState) (old new : ℕ) (answer is : TipStep) → answer ≡ is
    → HoldsOn before old after new (last_hold {E = Unit {0}} (Ok answer)) → HoldsOn before old after new (last_hold {E = Unit {0}} (Ok is))
turns-of before after old new answer is same turns = subst (λ (step : TipStep). HoldsOn before old after new (last_hold {E = Unit {0}} (Ok step))) same turns
