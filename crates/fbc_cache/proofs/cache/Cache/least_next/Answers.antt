-- A turn sees one buffer more, and the last has seen all.
use Rattle.std.proofs.Common.{◌≡◌, ◌+◌, ◌<◌, ◌∙◌, length, get_or, take, sym, ap, subst}
use Rattle.fbc_buffers.specs.Holding.{AreApart}
use Rattle.fbc_cache.specs.Cache.{CacheState}
use Rattle.fbc_cache.proofs.Dirty.{IsLeastOf, least-of-all, seen-all, turn-free, turn-past}
use Rattle.fbc_cache.proofs.HeldPairs.{ArePairs}
use Rattle.fbc_cache.proofs.cache.Cache.least_next.Goals as goal
use Rattle.fbc_cache.proofs.cache.Cache.least_next.Goals.{then-is_next, else-is_next}

pub loop-buffer-preserved : goal.loop-buffer-preserved
loop-buffer-preserved c =
    let same : c.args.self.now.held ≡ c.held-buffer-items.result.now = sym (ap (λ (s : CacheState). s.held) c.self.view_is) ∙ sym c.held-buffer-items.ensures.held in
    let is = c.buffer-item.is ∙ ap (λ xs. get_or xs c.loop-buffer.buffer-index c.buffer-item.result) (sym same) in
    let fits : c.loop-buffer.buffer-index < length c.args.self.now.held = rw same c.loop-buffer-test.true in
    let apart : AreApart c.args.self.now.held = subst AreApart (ap (λ (s : CacheState). s.held) c.self.view_is) c.held-buffer-items.ensures.holding.once in
    elim c.if-is_next.branch [
      | then-is_next w ↦ subst (IsLeastOf c.args.self.now (take (c.loop-buffer.buffer-index + 1) c.args.self.now.held)) (sym (w.least-is ∙ w.min-least.ensures))
          (turn-free c.args.self.now c.loop-buffer.buffer-index c.buffer-item.result c.loop-buffer.least fits is c.loop-buffer.invariant apart (c.is_next.ensures.0 w.if-is_next.true))
      | else-is_next w ↦ subst (IsLeastOf c.args.self.now (take (c.loop-buffer.buffer-index + 1) c.args.self.now.held)) (sym w.least-is)
          (turn-past c.args.self.now c.loop-buffer.buffer-index c.buffer-item.result c.loop-buffer.least fits is c.loop-buffer.invariant (λ free. (let passes = c.is_next.ensures.1 free in let fails = w.if-is_next.false in absurd (cc))))
    ]

pub returns : goal.returns
returns c =
    let all : ArePairs c.args.self.now.held c.args.self.now.pairs = subst (λ (s : CacheState). ArePairs s.held s.pairs) c.self.view_is c.self.invariant.2.pairs in
    let same : c.args.self.now.held ≡ c.held-buffer-items.result.now = sym (ap (λ (s : CacheState). s.held) c.self.view_is) ∙ sym c.held-buffer-items.ensures.held in
    least-of-all c.args.self.now c.loop-buffer.least all (seen-all c.args.self.now c.held-buffer-items.result.now c.loop-buffer.buffer-index c.loop-buffer.least same c.loop-buffer-test.false c.loop-buffer.auto.buffer-index-end c.loop-buffer.invariant)
