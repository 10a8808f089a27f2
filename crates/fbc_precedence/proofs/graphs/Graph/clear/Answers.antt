-- The pairs without those of the page are a graph still.
use Rattle.std.proofs.Common.{vec_capacity}
use Rattle.fbc_precedence.specs.Room.{IsGraph}
use Rattle.fbc_precedence.proofs.Keeping.{graph-without}
use Rattle.fbc_precedence.proofs.graphs.Graph.clear.Goals as goal

after : (c : goal.After-remove_page) → IsGraph c.self.inside.buffers c.remove_page.new.pairs.items (vec_capacity c.remove_page.new.pairs)
after c =
    graph-without c.self.inside.buffers c.self.inside.pairs.items (vec_capacity c.self.inside.pairs) c.self.invariant c.args.page c.remove_page.new.pairs.items (vec_capacity c.remove_page.new.pairs) c.remove_page.ensures.items c.remove_page.ensures.capacity

pub invariant_of-self : goal.invariant_of-self
invariant_of-self c = after c

pub returns-clause-order : goal.returns-clause-order
returns-clause-order c = (after c).order
