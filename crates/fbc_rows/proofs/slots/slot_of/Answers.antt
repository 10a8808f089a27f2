-- What the slot names.
use Rattle.std.proofs.Common.{◌≡◌, ◌%◌, subst}
use Rattle.fbc_cache.specs.Cache.{CacheState}
use Rattle.fbc_cache.specs.Readers.{slot_shown}
use Rattle.fbc_chains.specs.Showing.{shown_by}
use Rattle.fbc_rows.proofs.Ways.{slot-shown}
use Rattle.fbc_rows.proofs.slots.slot_of.Goals as goal

pub returns : goal.returns
returns c =
    slot-shown (shown_by c.args.desk.now.cache) c.args.relation c.args.sequence c.pointer_at-pointer.result c.slots-slots.result c.slot.result
    c.slots-slots.ensures.slots c.pointer_at-pointer.ensures
    (subst (λ (k : CacheState). c.slot.result ≡ slot_shown k c.pointer_at-pointer.result (c.args.sequence % c.slots-slots.result)) c.cache.ensures c.slot.ensures)
