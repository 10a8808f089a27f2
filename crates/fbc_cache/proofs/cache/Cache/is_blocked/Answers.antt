use Rattle.fbc_cache.proofs.Low.{low-told}
use Rattle.fbc_cache.proofs.cache.Cache.is_blocked.Goals as goal

pub returns : goal.returns
returns c = rw (← c.self.view_is) (low-told c.self.inside.graph.pairs c.args.page c.blocked.result c.blocked.ensures)
