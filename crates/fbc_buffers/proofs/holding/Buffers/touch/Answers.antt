use Rattle.std.proofs.Common.{◌≡◌, ◌++◌, ◌∷◌, [], ◌∙◌, ap, sym, arith}
use Rattle.std.specs.List.{remove}
use Rattle.fbc_buffers.specs.Holding.{touched}
use Rattle.fbc_buffers.proofs.Apart.{IsHolding-touched}
use Rattle.fbc_buffers.proofs.InPlace.{touched-at, touched-none}
use Rattle.fbc_buffers.proofs.holding.Buffers.touch.Goals as goal

last : (c : goal.After-unwrap) → c.push.new.self.items ≡ touched c.args.page c.self.inside.held.items
last c =
    rw (c.push.ensures.items, c.unwrap.ensures, c.remove-buffer.ensures.items) (ap (λ b. remove c.self.inside.held.items c.in-Some.at ++ b ∷ []) c.remove-buffer.ensures.value
    ∙ touched-at c.args.page c.self.inside.held.items c.in-Some.at c.remove-buffer.result c.self.invariant.0.once (rw (← c.self.view_is) at c.in-Some.ensures.within) (sym (rw (← c.self.view_is) at c.in-Some.ensures.place)))

pub invariant_of-self : goal.invariant_of-self
invariant_of-self c =
    (rw (last c) (IsHolding-touched c.args.page _ _ c.self.invariant.0), omega (arith, c.self.invariant.1, c.push.ensures.lower_bound, c.remove-buffer.ensures.capacity))

pub returns-in-Some : goal.returns-in-Some
returns-in-Some c = rw (← c.self.view_is) (ap (λ held. record { room = c.self.inside.room; held = held }) (last c))

pub returns-in_default : goal.returns-in_default
returns-in_default c =
    rw (← c.self.view_is) (ap (λ held. record { room = c.self.inside.room; held = held }) (touched-none c.args.page c.self.inside.held.items (sym (rw (← c.self.view_is) at c.place.ensures.place) ∙ c.in_default.is)))
