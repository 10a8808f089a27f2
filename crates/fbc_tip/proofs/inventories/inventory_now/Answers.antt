-- A turn adds the states of one page.
use Rattle.std.proofs.Common.{◌≡◌, ◌∙◌, ◌<◌, ◌+◌, ◌++◌, length, ap, refl, subst, sym}
use Rattle.fbc_kinds.specs.Limits.{tip_numbers}
use Rattle.fbc_cache.specs.Cache.{CacheState, copy_in}
use Rattle.fbc_cache.specs.Readers.{states_in}
use Rattle.fbc_tip.proofs.Inventory.{AreStatesTo, count-held, one_page_more, states_at}
use Rattle.fbc_tip.proofs.inventories.inventory_now.Goals as goal

pub loop-sequence-preserved : goal.loop-sequence-preserved
loop-sequence-preserved c =
    let less : c.loop-sequence.sequence < length c.args.desk.now.tips = subst (λ n. c.loop-sequence.sequence < n) c.tip_count-count.ensures c.loop-sequence-test.true in
    let piece : c.states.result.now ≡ states_at c.args.desk.now c.loop-sequence.sequence =
    c.states.ensures ∙ ap (λ (cache : CacheState). states_in (copy_in cache.held c.tip_page.result)) c.cache.ensures ∙ ap (λ p. states_in (copy_in c.args.desk.now.cache.held p)) c.tip_page.ensures in
    subst (AreStatesTo c.args.desk.now (c.loop-sequence.sequence + 1) (tip_numbers c.args.desk.now.cache.shape.size)) (sym (c.in_ok-extend_from_slice.ensures.items ∙ ap (λ xs. c.loop-sequence.states.items ++ xs) piece))
    (one_page_more c.args.desk.now c.loop-sequence.sequence (tip_numbers c.args.desk.now.cache.shape.size) c.loop-sequence.states.items refl c.loop-sequence.invariant
    (count-held c.args.desk.now c.loop-sequence.sequence c.holds.ensures.cache (c.requires.held c.loop-sequence.sequence less)))
