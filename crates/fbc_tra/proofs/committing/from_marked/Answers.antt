-- The page with the mark is written, and then the lock of the number is given up.
use Rattle.std.proofs.Common.{◌≡◌, ◌∙◌, refl, sym, subst, inl, inr}
use Rattle.fbc_cache.specs.Cache.{CacheState, is_dirty_in}
use Rattle.fbc_desk.specs.Calls.{GoesOn}
use Rattle.fbc_tra.proofs.Ways.{comes-here}
use Rattle.fbc_tra.proofs.committing.from_marked.Goals as goal

pub returns-then-is_dirty-clause-comes : goal.returns-then-is_dirty-clause-comes
returns-then-is_dirty-clause-comes c =
    comes-here _ _ _ _ _ (inl (record {
      dirty = sym (subst (λ (lent : CacheState). c.is_dirty.result ≡ is_dirty_in lent.held c.args.page) c.cache.ensures c.is_dirty.ensures) ∙ c.if-is_dirty.true;
      same = refl;
      stays = refl;
      is_write = c.write.ensures;
    }))

pub returns-then-is_dirty-clause-goes : goal.returns-then-is_dirty-clause-goes
returns-then-is_dirty-clause-goes c = GoesOn.stays c.args.desk.now

pub returns-clause-comes : goal.returns-clause-comes
returns-clause-comes c =
    comes-here _ _ _ _ _ (inr (record {
      clean = sym (subst (λ (lent : CacheState). c.is_dirty.result ≡ is_dirty_in lent.held c.args.page) c.cache.ensures c.is_dirty.ensures) ∙ c.if-is_dirty.false;
      unpins = c.unpin_all.ensures.unpins;
      goes = refl;
      is_lowering = c.lowering.ensures;
    }))
