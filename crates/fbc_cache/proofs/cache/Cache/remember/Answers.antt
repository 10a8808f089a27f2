-- The header is within its limits.
use Rattle.fbc_cache.proofs.Few.{header-few}
use Rattle.fbc_cache.proofs.cache.Cache.remember.Goals as goal

pub set-requires : goal.set-requires
set-requires c =
    record { few = rw c.items.ensures (header-few c.args.self.now.shape.size c.in-Header.header (rw c.in-Header.is at c.requires.limits)) }
