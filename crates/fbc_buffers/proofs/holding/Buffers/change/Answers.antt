use Rattle.std.proofs.Common.{◌≡◌, ◌∙◌, ap, map, set, sym}
use Rattle.fbc_buffers.specs.Holding.{changed, with_change}
use Rattle.fbc_buffers.proofs.Apart.{IsHolding-map}
use Rattle.fbc_buffers.proofs.InPlace.{changed-at, changed-none, keeps}
use Rattle.fbc_buffers.proofs.holding.Buffers.change.Goals as goal

made : (c : goal.After-self-1) → set c.self.inside.held.items c.in-Some.at c.apply.new.buffer ≡ map (with_change c.args.page c.args.change) c.self.inside.held.items
made c =
    ap (set c.self.inside.held.items c.in-Some.at) (c.apply.ensures ∙ ap (changed c.args.change) c.index_mut.ensures.value)
    ∙ changed-at c.args.page c.args.change c.self.inside.held.items c.in-Some.at c.index_mut.result.now c.self.invariant.0.once (rw (← c.self.view_is) at c.in-Some.ensures.within) (sym (rw (← c.self.view_is) at c.in-Some.ensures.place))

pub invariant_of-self : goal.invariant_of-self
invariant_of-self c =
    (rw (made c) (IsHolding-map (with_change c.args.page c.args.change) (keeps c.args.page c.args.change) _ _ c.self.invariant.0), c.self.invariant.1)

pub returns-in-Some : goal.returns-in-Some
returns-in-Some c = rw (← c.self.view_is) (ap (λ held. record { room = c.self.inside.room; held = held }) (made c))

pub returns-in_default : goal.returns-in_default
returns-in_default c =
    rw (← c.self.view_is) (ap (λ held. record { room = c.self.inside.room; held = held }) (changed-none c.args.page c.args.change c.self.inside.held.items (sym (rw (← c.self.view_is) at c.place.ensures.place) ∙ c.in_default.is)))
