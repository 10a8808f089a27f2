use Rattle.std.proofs.Common.{◌≡◌, Some, sym}
use Rattle.fbc_buffers.specs.Holding.{buffer_of}
use Rattle.fbc_cache.specs.Cache.{IsCache}
use Rattle.fbc_cache.proofs.Headers.{tips-few, tips-lent}
use Rattle.fbc_cache.proofs.cache.Cache.header.Goals as goal

pub returns-in-Some-clause-limits : goal.returns-in-Some-clause-limits
returns-in-Some-clause-limits c =
    let b = c.in-Some.buffer.now in
    let is : IsCache c.args.self.now = rw (← c.self.view_is) c.self.invariant.2 in
    let found : buffer_of c.args.self.now.held 0 ≡ Some b = rw (← c.self.view_is) (sym c.in-Some.ensures) in
    tips-lent b.copy c.header_in.result c.header_in.ensures (tips-few c.args.self.now is b found)
