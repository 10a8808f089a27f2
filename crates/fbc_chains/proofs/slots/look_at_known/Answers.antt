-- The slot names what the pointer page shows after the look.
use Rattle.std.proofs.Common.{◌≡◌, ◌/◌, subst}
use Rattle.fbc_cache.specs.Cache.{CacheState}
use Rattle.fbc_cache.specs.Readers.{number_at}
use Rattle.fbc_cache.specs.Remembered.{pointers_of}
use Rattle.fbc_chains.specs.Showing.{shown_by}
use Rattle.fbc_chains.proofs.Showing.{lent-shows}
use Rattle.fbc_chains.proofs.Ways.{named-by}
use Rattle.fbc_chains.proofs.slots.look_at_known.Goals as goal

pub returns-in-Here-clause-slot : goal.returns-in-Here-clause-slot
returns-in-Here-clause-slot c =
    named-by (shown_by c.args.desk.now.cache) (shown_by c.cache-in-Here.result.now) c.args.at c.pointer_page-pointer.result c.slots-slots.result c.slot.result
    (lent-shows c.cache-in-Here.result.now c.look_at.new.desk.cache c.args.desk.now.cache c.cache-in-Here.ensures c.look_at.ensures.same)
    c.slots-slots.ensures.slots
    (subst (λ (k : CacheState). c.pointer_page-pointer.result ≡ number_at (pointers_of k.pointers c.args.at.relation) (c.args.at.sequence / c.slots-slots.result)) c.cache.ensures c.pointer_page-pointer.ensures)
    c.in-Here.ensures.held c.slot.ensures
