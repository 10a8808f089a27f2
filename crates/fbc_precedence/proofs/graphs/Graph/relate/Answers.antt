-- Of two pages one at most stands before the other, and a new pair finds room and makes no circle.
use Rattle.std.proofs.Common.{vec_capacity, length, ap, subst, sym, arith}
use Rattle.fbc_precedence.specs.Precedence.{Precedence, ComesBefore, HasRoom}
use Rattle.fbc_precedence.specs.Room.{IsGraph}
use Rattle.fbc_precedence.proofs.Keeping.{one-way, told-not, room-for-one, graph-with}
use Rattle.fbc_precedence.proofs.graphs.Graph.relate.Goals as goal

pub returns-then-stands_before-clause-write_first : goal.returns-then-stands_before-clause-write_first
returns-then-stands_before-clause-write_first c =
    let down = subst (λ pairs. ComesBefore pairs c.args.high c.args.low) c.deref.ensures.value (c.stands_before.ensures.0 c.if-stands_before.true) in (
      λ same. absurd (cc),
      λ up. absurd (one-way c.self.inside.pairs.items c.self.invariant.order.acyclic c.args.high c.args.low down (subst (λ (order : Precedence). ComesBefore order.pairs c.args.low c.args.high) (sym c.self.view_is) up)),
    )

pub add_pair-requires : goal.add_pair-requires
add_pair-requires c =
    let room = room-for-one c.self.inside.buffers c.self.inside.pairs.items (vec_capacity c.self.inside.pairs) c.self.invariant c.args.high c.args.low c.requires.differ
    (subst (λ order. HasRoom order c.args.high c.args.low) (sym c.self.view_is) c.requires.room)
    (told-not c.deref.result.now c.self.inside.pairs.items c.deref.ensures.value c.args.high c.args.low c.stands_before.result c.stands_before.ensures c.if-stands_before.false)
    (told-not c.deref-2.result.now c.self.inside.pairs.items c.deref-2.ensures.value c.args.low c.args.high c.stands_before-2.result c.stands_before-2.ensures c.if-stands_before-2.false) in
    omega (arith, room, c.deref.ensures.len, ap length c.deref.ensures.value)

after : (c : goal.After-add_pair) → IsGraph c.self.inside.buffers c.add_pair.new.pairs.items (vec_capacity c.add_pair.new.pairs)
after c =
    graph-with c.self.inside.buffers c.self.inside.pairs.items (vec_capacity c.self.inside.pairs) c.self.invariant c.args.high c.args.low c.requires.differ
    (subst (λ order. HasRoom order c.args.high c.args.low) (sym c.self.view_is) c.requires.room)
    (told-not c.deref.result.now c.self.inside.pairs.items c.deref.ensures.value c.args.high c.args.low c.stands_before.result c.stands_before.ensures c.if-stands_before.false)
    (told-not c.deref-2.result.now c.self.inside.pairs.items c.deref-2.ensures.value c.args.low c.args.high c.stands_before-2.result c.stands_before-2.ensures c.if-stands_before-2.false)
    c.add_pair.new.pairs.items (vec_capacity c.add_pair.new.pairs) c.add_pair.ensures.items c.add_pair.ensures.capacity

pub invariant_of-self : goal.invariant_of-self
invariant_of-self c = after c

pub returns-clause-order : goal.returns-clause-order
returns-clause-order c = (after c).order
